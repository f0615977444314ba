-- The tables of a book that can be read can be searched.
use Rattle.std.specs.Prelude.{ℕ, ◌<◌, List, Option}
use Rattle.model.specs.Book.Contents.{first_of, end_of, table_count}
use Rattle.model.specs.Book.Read.{sizes}
use Rattle.model.specs.Laws.Book.{Readable}
use Rattle.model.specs.Laws.Kinds.{table_read}
use Rattle.tables.specs.Tables.{Stands, info_of}
use Rattle.tables.specs.TablesLaws.{stands}
use Rattle.hash_index.specs.Book.{BookIndex}
use Rattle.hash_index.specs.BookLaws.{book_has}
use Rattle.ids.specs.declared.TableId.{TableId}
use Rattle.predicted_index.specs.Row.{sought_in, Searchable}

pub table_stands : (w : List ℕ) → Readable w → (t : ℕ) → t < table_count w → Stands w (info_of w t)
table_stands w h t l =
    let r = table_read w h.contents h.bodies t l in
    stands w (first_of w t) (sizes w) (end_of w t) r.1 r.0.within

pub searchable : (w : List ℕ) (chains : Option (List ℕ)) → Readable w → BookIndex w (table_count w) chains → (t : TableId) → t.0 < table_count w → Searchable w chains (sought_in w t)
searchable w chains h b t l = record { stands = table_stands w h t.0 l; indexed = book_has w (table_count w) chains b t.0 l }

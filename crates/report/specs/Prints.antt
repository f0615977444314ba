-- What an outcome's lines are, and what another arrangement of the tables' rows leaves as it was; `proofs/Prints` shows of any outcome that the engine may return that its lines are those that the book prints.
use Rattle.std.specs.Prelude.{ℕ, zero, suc, ◌≤◌, ◌≡◌, refl, List, [], ◌∷◌, Option, None, Some}
use Rattle.std.proofs.Common.{sym, ap, ◌∙◌, arith}
use Rattle.std.proofs.Math.ListN.{length}
use Rattle.model.specs.Basics.{All}
use Rattle.model.specs.Book.Syntax.{Table, table_at}
use Rattle.model.specs.Book.Words.{Refusal, words_of}
use Rattle.model.specs.Book.Contents.{table_count, first_of}
use Rattle.model.specs.Book.Decode.{read_table}
use Rattle.model.specs.Book.Read.{tables}
use Rattle.model.specs.Machine.State.{Record, record_size}
use Rattle.model.specs.Commit.{committed as committed_table, commit}
use Rattle.model.specs.Answer.{Perm, same, keep, swap, both, Arranged, answer}
use Rattle.model.specs.Outcome.{Lent, Outcome, refused, accepted, left, committed, refusal, outcome}
use Rattle.model.specs.Printed.{Line, refused as refused_line, table, table_lines, printed}
use Rattle.model.specs.Laws.Lists.{length_tab}
use Rattle.record_log.specs.RecordLaws.{Sized}
use Rattle.report.specs.Lines.{answer_lines}
use Rattle.report.specs.AnswerLines.{Fits}
use Rattle.report.specs.Bound.{Small}

abbrev pub outcome_lines : Outcome → List Line
outcome_lines (refused r) = refused_line r.number r.place ∷ []
outcome_lines (accepted ws) = answer_lines ws

-- an answer has n words at most, each below 10 ^ 10
abbrev pub Narrow : ℕ → Outcome → Type 0
Narrow n (refused r) = Unit {0}
Narrow n (accepted ws) = All Small ws × (length ws ≤ n)

-- ## Tables of the same shape

record Alike (a b : Table) : Type 0 where
  keys : a.keys ≡ b.keys
  vals : a.vals ≡ b.vals

alike_size : {a b : Table} → Alike a b → (kind : ℕ) → record_size a kind ≡ record_size b kind
alike_size {a} {b} h kind = rw (h.keys, h.vals)

commit_alike : (log : List Record) (ts : List Table) (n t : ℕ) → Alike (table_at ts t) (table_at (commit log ts n) t)
unfolding commit committed_table
commit_alike log [] n t = record { keys = refl; vals = refl }
commit_alike log (u ∷ ts) n zero = record { keys = refl; vals = refl }
commit_alike log (u ∷ ts) n (suc t) = commit_alike log ts (suc n) t

length_commit : (log : List Record) (ts : List Table) (n : ℕ) → length (commit log ts n) ≡ length ts
unfolding commit
length_commit log [] n = refl
length_commit log (u ∷ ts) n = ap suc (length_commit log ts (suc n))

length_perm : {a b : List (List ℕ)} → Perm a b → length a ≡ length b
length_perm same = refl
length_perm (keep p) = ap suc (length_perm p)
length_perm swap = refl
length_perm (both p q) = length_perm p ∙ length_perm q

-- rows in another arrangement
arranged_alike : (ts us : List Table) → Arranged ts us → (t : ℕ) → Alike (table_at ts t) (table_at us t)
arranged_alike [] [] h t = record { keys = refl; vals = refl }
arranged_alike [] (u ∷ us) h t = absurd h
arranged_alike (x ∷ ts) [] h t = absurd h
arranged_alike (x ∷ ts) (u ∷ us) h zero = record { keys = h.0; vals = h.1 }
arranged_alike (x ∷ ts) (u ∷ us) h (suc t) = arranged_alike ts us h.4 t

length_arranged : (ts us : List Table) → Arranged ts us → length ts ≡ length us
length_arranged [] [] h = refl
length_arranged [] (u ∷ us) h = absurd h
length_arranged (x ∷ ts) [] h = absurd h
length_arranged (x ∷ ts) (u ∷ us) h = ap suc (length_arranged ts us h.4)

pub arranged_lines : (k : ℕ) (ts us : List Table) → Arranged ts us → table_lines k us ≡ table_lines k ts
arranged_lines k [] [] h = refl
arranged_lines k [] (u ∷ us) h = absurd h
arranged_lines k (x ∷ ts) [] h = absurd h
arranged_lines k (x ∷ ts) (u ∷ us) h = rw (length_perm h.3) (ap (λ (l : List Line). table k (length u.rows) ∷ l) (arranged_lines (suc k) ts us h.4))

-- ## What is printed

pub clash : {ws : List ℕ} {r : Refusal} → accepted ws ≡ refused r → ◌≡◌ {A = ℕ} 0 1
clash e = cc

pub its : {q r : Refusal} → refused q ≡ refused r → r ≡ q
its e = cc

module _ (l : Lent) (book : List ℕ) where
  pub fits : (us : List Table) → Arranged (committed l book) us → (r : Record) → Sized (words_of book) r → Fits us r
  unfolding tables
  fits us h r s =
      let log = (left l book).log in
      let ts = tables (words_of book) in
      let known : length ts ≡ table_count (words_of book) = length_tab (λ t. read_table (words_of book) (first_of (words_of book) t)) (table_count (words_of book)) in
      record {
        table = omega (arith, s.table, known, length_commit log ts 0, length_arranged (committed l book) us h);
        size = s.size ∙ alike_size (commit_alike log ts 0 r.table) r.kind ∙ alike_size (arranged_alike (committed l book) us h r.table) r.kind;
      }

  pub refused_printed : (r : Refusal) → refusal l book ≡ Some r → refused_line r.number r.place ∷ [] ≡ printed l book
  unfolding printed
  refused_printed r e = rw e

  pub outcome_refused : (r : Refusal) → refusal l book ≡ Some r → outcome l book ≡ refused r
  unfolding outcome
  outcome_refused r e = rw e

  pub outcome_accepted : refusal l book ≡ None → outcome l book ≡ accepted (answer (committed l book) (left l book))
  unfolding outcome
  outcome_accepted e = rw e

  -- an accepted book draws no refusal
  pub unrefused : (ws : List ℕ) → outcome l book ≡ accepted ws → refusal l book ≡ None
  unrefused ws a = by (refusal l book) refl
    where
      by : (x : Option Refusal) → refusal l book ≡ x → refusal l book ≡ None
      by None e = e
      by (Some q) e = let z : ◌≡◌ {A = ℕ} 0 1 = clash (sym a ∙ outcome_refused q e) in absurd (omega arith)

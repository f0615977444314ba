-- What a call appends to a page.
use Rattle.std.specs.Prelude.{ℕ, ◌+◌, ◌≡◌, refl, List, [], ◌∷◌, ◌++◌, length}
use Rattle.std.proofs.Common.{sym, ap, subst, ◌∙◌, arith, length-append}
use Rattle.model.specs.Printed.{Line}
use Rattle.report.specs.Text.{line_bytes, text, Text, up_to, appended}
use Rattle.report.specs.TextLaws.{appended_append, text_append, text_one}
use Rattle.report.specs.declared.text.Page.{Page}

-- the buffer, and where the next byte goes
abbrev pub text_of : Page → Text
text_of p = up_to p.out.now p.at

-- q is p with bs behind what was written, in the same buffer
pub record Appends (p q : Page) (bs : List ℕ) : Type 0 where
  pub same_buffer : q.out.ghost_name ≡ p.out.ghost_name
  pub bytes : text_of q ≡ appended bs (text_of p)

pub appends_none : (p : Page) → Appends p p []
unfolding appended
appends_none p = record { same_buffer = refl; bytes = refl }

pub appends_more : {p q r : Page} {a b : List ℕ} → Appends p q a → Appends q r b → Appends p r (a ++ b)
appends_more {p} {q} {r} {a} {b} h k = record {
  same_buffer = k.same_buffer ∙ h.same_buffer;
  bytes = k.bytes ∙ ap (appended b) h.bytes ∙ sym (appended_append a b (text_of p));
}

pub appends_is : {p q : Page} {a b : List ℕ} → a ≡ b → Appends p q a → Appends p q b
appends_is {p} {q} e h = subst (λ (bs : List ℕ). Appends p q bs) e h

-- the page and the count after the lines ls; the page and the count before
pub record Written (q : Page) (m : ℕ) (ls : List Line) (p : Page) (n : ℕ) : Type 0 where
  pub page : Appends p q (text ls)
  pub count : m ≡ n + length ls

pub written_none : (p : Page) (n : ℕ) → Written p (n + 0) [] p n
unfolding text
written_none p n = record { page = appends_none p; count = omega arith }

pub written_one : {q p : Page} {line : Line} (n : ℕ) → Appends p q (line_bytes line) → Written q (n + 1) (line ∷ []) p n
written_one {q} {p} {line} n h = record { page = appends_is (sym (text_one line)) h; count = omega arith }

pub written_more : {r q p : Page} {k m n : ℕ} {ls ms : List Line} → Written q m ls p n → Written r k ms q m → Written r k (ls ++ ms) p n
written_more {r} {q} {p} {k} {m} {n} {ls} {ms} h j = record {
  page = appends_is (sym (text_append ls ms)) (appends_more h.page j.page);
  count = omega (arith, h.count, j.count, length-append ls ms);
}

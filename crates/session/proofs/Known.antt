-- Bytes that are known to come, read one part after the other.
use Rattle.std.specs.Prelude.{ℕ, ◌+◌, ◌-◌, ◌<◌, ◌≤◌, ◌≡◌, List, [], ◌∷◌, ◌++◌, length, take, drop, Option, None, Some, Result, Ok, Err, IfSome, IfOk, OnOk, MatchResult, true, is_ok}
use Rattle.std.proofs.Common.{sym, ap, subst, ◌∙◌, arith, append_assoc, lt-ltb, length-take, length-take-le, take_all}
use Rattle.std.proofs.lemmas.Bool.{lt-leb}
use Rattle.std.proofs.lemmas.List.{append-nil}
use Rattle.std.proofs.Math.Decide.{dec_lt}
use Rattle.std.proofs.Math.Seq.{take-add, take-append-add, take-append-le, take-append_seam}
use Rattle.model.specs.Outcome.{refusal, book_refusal}
use Rattle.model.specs.Printed.{printed, refused}
use Rattle.model.specs.Claims.Cases.{dispatch_lends}
use Rattle.std.specs.Io.KnownBytes.{Appends, Consumes, IsAtEnd}

part_more : (bytes : List ℕ) (at next : ℕ) → at < next → take next bytes ≡ take at bytes ++ take (next - at) (drop at bytes)
part_more bytes at next h =
    let e : next ≡ at + (next - at) = omega arith in
    ap (λ (k : ℕ). take k bytes) e ∙ take-add at (next - at) bytes

-- what was read so far, and the part that one more read put behind it
pub consumes_more : (a b c : Option (List ℕ)) (old new : List ℕ) (at next : ℕ) → at < next → Consumes a b (take at old) → take at new ≡ take at old → Consumes b c (take (next - at) (drop at new)) → Consumes a c (take next new)
consumes_more None b c old new at next h f e g = tt
consumes_more (Some xs) None c old new at next h f e g = absurd f
consumes_more (Some xs) (Some ys) None old new at next h f e g = absurd g
consumes_more (Some xs) (Some ys) (Some zs) old new at next h f e g =
    f
    ∙ ap (λ (l : List ℕ). l ++ ys) (sym e)
    ∙ ap (λ (l : List ℕ). take at new ++ l) g
    ∙ sym (append_assoc (take at new) (take (next - at) (drop at new)) zs)
    ∙ ap (λ (l : List ℕ). l ++ zs) (sym (part_more new at next h))

-- the bytes up to `at` and those that were read behind them
pub front_more : (at n : ℕ) (old part rest : List ℕ) → at ≤ length old → n ≤ length part → take (at + n) (take at old ++ (part ++ rest)) ≡ take at old ++ take n part
front_more at n old part rest h k =
    let size = length-take-le at old h in
    ap (λ (m : ℕ). take (m + n) (take at old ++ (part ++ rest))) (sym size) ∙ take-append-add (take at old) (part ++ rest) n ∙ ap (λ (l : List ℕ). take at old ++ l) (take-append-le n part rest k)

-- the bytes that stand in the buffer are the first that were to come, as many as have room
pub as_held : (known rest : Option (List ℕ)) (buffer : List ℕ) (n : ℕ) → n ≤ length buffer → Consumes known rest (take n buffer) → (n < length buffer → IsAtEnd rest) → IfSome known (λ bytes. take n buffer ≡ take (length buffer) bytes)
as_held None rest buffer n h c end = tt
as_held (Some xs) None buffer n h c end = absurd c
as_held (Some xs) (Some ys) buffer n h c end = elim (dec_lt n (length buffer)) [
  | yes l ↦
      let all : xs ≡ take n buffer = c ∙ ap (λ (l : List ℕ). take n buffer ++ l) (end l) ∙ append-nil (take n buffer) in
      sym (ap (take (length buffer)) all ∙ take_all (length buffer) (take n buffer) (omega (arith, length-take-le n buffer h)))
  | no m ↦
      let size : length buffer ≡ length (take n buffer) = omega (arith, length-take-le n buffer h) in
      sym (ap (take (length buffer)) c ∙ ap (λ (k : ℕ). take k (take n buffer ++ ys)) size ∙ take-append_seam (take n buffer) ys)
]

-- what holds of a value, where `map_err` gave it as it was
pub at_ok : {T E : Type 0} (D : Type 0) (P : T → Type 0) (Q : E → Type 0) (r : Result T E) (n : T) → MatchResult r (λ x. ◌≡◌ {A = Result T D} (Ok n) (Ok x)) Q → true ≡ is_ok r → IfOk r P → P n
at_ok D P Q (Ok x) n e v p = let same : x ≡ n = cc in subst P same p
at_ok D P Q (Err y) n e v p = absurd cc

-- what was written for the bytes in the buffer was written for those that were to come, where only as many matter as have room
pub of_known : {E : Type 0} {U : Type 0} (r : Result U E) (known old new : Option (List ℕ)) (text : List ℕ → List ℕ) (buffer : List ℕ) (n size : ℕ) → length buffer ≡ size → ((bytes : List ℕ) → text (take size bytes) ≡ text bytes) → IfSome known (λ bytes. take n buffer ≡ take (length buffer) bytes) → OnOk r (Appends old new (text (take n buffer))) → OnOk r (IfSome known (λ bytes. Appends old new (text bytes)))
of_known (Err e) known old new text buffer n size l same k p = tt
of_known (Ok u) None old new text buffer n size l same k p = tt
of_known (Ok u) (Some bytes) old new text buffer n size l same k p = subst (λ (bs : List ℕ). Appends old new bs) (ap text (k ∙ ap (λ (m : ℕ). take m bytes) l) ∙ same bytes) p

-- a book of more than 65536 bytes is refused for its length, so that what the model prints for a book depends on its first 65537 bytes
long : (book : List ℕ) → 65536 < length book → printed dispatch_lends book ≡ refused 1 0 ∷ []
unfolding printed refusal book_refusal
long book h =
    let some_bytes : 0 < length book = omega arith in
    rw (lt-ltb 0 (length book) some_bytes, lt-leb (length book) 65536 h)

pub cut_lem : (book : List ℕ) → printed dispatch_lends (take 65537 book) ≡ printed dispatch_lends book
cut_lem book = elim (dec_lt 65537 (length book)) [
  | yes h ↦ long (take 65537 book) (omega (arith, length-take 65537 book, h)) ∙ sym (long book (omega (arith, h)))
  | no h ↦ ap (printed dispatch_lends) (take_all 65537 book (omega (arith, h)))
]

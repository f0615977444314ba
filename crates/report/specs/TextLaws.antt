use Rattle.std.specs.Prelude.{ℕ, zero, suc, ◌+◌, ◌-◌, ◌*◌, ◌/◌, ◌%◌, ◌^◌, ◌<◌, ◌≤◌, ◌≡◌, refl, List, [], ◌∷◌, ◌++◌, length, get_or, take}
use Rattle.std.proofs.Common.{sym, ap, ◌∙◌, append_assoc, append-nil, pow-suc, arith, lt-ltb, le-ltb}
use Rattle.std.proofs.lemmas.List.{take_more}
use Rattle.std.proofs.Math.Nat.{one-le-pow, pow-le-pow_right}
use Rattle.std.proofs.Math.Decide.{dec_lt}
use Rattle.io.specs.Digits.{last_digits as placed, IsDigitCount}
use Rattle.model.specs.Printed.{Line}
use Rattle.report.specs.Text.{digits, field, fields, named, line_bytes, text, Text, pushed, appended}

-- Laws of text in a buffer, and of numbers in base ten.

-- ## One text after another

pub appended_append : (a b : List ℕ) (t : Text) → appended (a ++ b) t ≡ appended b (appended a t)
unfolding appended
appended_append [] b t = refl
appended_append (x ∷ a) b t = appended_append a b (pushed x t)

pub text_append : (a b : List Line) → text (a ++ b) ≡ text a ++ text b
unfolding text
text_append [] b = refl
text_append (l ∷ a) b = ap (λ (x : List ℕ). line_bytes l ++ x) (text_append a b) ∙ sym (append_assoc (line_bytes l) (text a) (text b))

pub text_one : (l : Line) → text (l ∷ []) ≡ line_bytes l
unfolding text
text_one l = append-nil (line_bytes l)

pub fields_append : (a b : List ℕ) → fields (a ++ b) ≡ fields a ++ fields b
unfolding fields
fields_append [] b = refl
fields_append (n ∷ a) b = ap (λ (l : List ℕ). field n ++ l) (fields_append a b) ∙ sym (append_assoc (field n) (fields a) (fields b))

pub fields_more : (ns : List ℕ) (i : ℕ) → i < length ns → fields (take i ns) ++ field (get_or ns i 0) ≡ fields (take (i + 1) ns)
unfolding fields
fields_more ns i h = rw (take_more ns i 0 h) (sym (fields_append (take i ns) (get_or ns i 0 ∷ []) ∙ ap (λ (l : List ℕ). fields (take i ns) ++ l) (append-nil (field (get_or ns i 0)))))

-- a line, piece by piece
pub line_is : (name : List ℕ) (n : ℕ) (ns : List ℕ) → name ++ field n ++ fields ns ++ (10 ∷ []) ≡ named name (n ∷ ns)
unfolding fields
line_is name n ns = ap (λ (l : List ℕ). l ++ (10 ∷ [])) (append_assoc name (field n) (fields ns))

-- ## Base ten

-- as few digits as hold n
pub decimal_is : (d r n : ℕ) → IsDigitCount 10 1 n r → r ≤ d → placed 10 r n ≡ digits d n
unfolding digits
decimal_is d zero n f h = absurd (omega arith)
decimal_is zero (suc r) n f h = absurd (omega arith)
decimal_is (suc d) (suc zero) n f h =
    let l : n < 10 = f.1 in
    let e : n % 10 ≡ n = omega arith in
    rw (lt-ltb n 10 l, e, lt-ltb n 10 l)
decimal_is (suc d) (suc (suc r)) n f h =
    let one : suc (suc r) - 1 ≡ suc r = omega arith in
    let low : 10 ^ suc r ≤ n = rw one at (f.2 (omega arith)) in
    let high : n < 10 ^ suc (suc r) = f.1 in
    let tens : 10 ^ suc r ≡ 10 ^ r * 10 = pow-suc 10 r in
    let more : 10 ^ suc (suc r) ≡ 10 ^ suc r * 10 = pow-suc 10 (suc r) in
    let some : 0 < 10 ^ r = one-le-pow r 10 (omega arith) in
    let few : IsDigitCount 10 1 (n / 10) (suc r) = (omega arith, omega arith, λ _. let none : suc r - 1 ≡ r = omega arith in rw none (omega arith)) in
    let last : n % 10 < 10 = omega arith in
    let many : 10 ≤ n = omega arith in
    rw (le-ltb n 10 many, lt-ltb (n % 10) 10 last) (ap (λ (l : List ℕ). l ++ ((48 + n % 10) ∷ [])) (decimal_is d (suc r) (n / 10) few (omega arith)))

-- 10 ^ 20 is above 2 ^ 64
pub few_digits : (r n : ℕ) → IsDigitCount 10 1 n r → n < 2 ^ 64 → r ≤ 20
few_digits r n f h = elim (dec_lt 20 r) [ yes p ↦ absurd (many p) | no p ↦ omega arith ]
  where
    many : 20 < r → ⊥
    many p =
        let least : 10 ^ 20 ≤ 10 ^ (r - 1) = pow-le-pow_right {n = 10} (omega arith) {i = 20} {j = r - 1} (omega arith) in
        let most : 10 ^ (r - 1) ≤ n = f.2 (omega arith) in
        omega arith

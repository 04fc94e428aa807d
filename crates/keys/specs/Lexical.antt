-- Making a key where a test allows it, and orders by one number after another.
use Rattle.std.specs.Prelude.{◌≡◌, ℕ, Bool, true, false, T, Some, Ok, nat_lt, refl}
use Rattle.std.proofs.Common.{ap, ◌∙◌, arith}
use Rattle.std.specs.Option.{ok_or}
use Rattle.std.proofs.lemmas.Bool.Decides.{nat_tests}
use Rattle.keys.specs.Making.{made, then_by}

pub made_some : {A : Type 0} (b : Bool) (f : T b → A) (p : T b) → made b f ≡ Some (f p)
made_some true f p = refl
made_some false f p = absurd p

pub ok_made : {A E : Type 0} (b : Bool) (f : T b → A) (e : E) (p : T b) → Ok (f p) ≡ ok_or (made b f) e
ok_made true f e p = refl
ok_made false f e p = absurd p

pub made_from : {A : Type 0} (b : Bool) (f : T b → A) (a : A) → made b f ≡ Some a → (p : T b) × (f p ≡ a)
made_from true f a e = (tt, cc)
made_from false f a e = let z : ◌≡◌ {A = ℕ} 0 1 = cc in absurd (omega arith)

pub same_pair : (v w : ℕ × ℕ) → v.0 ≡ w.0 → v.1 ≡ w.1 → v ≡ w
same_pair v w p q = ap (λ n. (n, v.1)) p ∙ ap (λ n. (w.0, n)) q

pub then_trans : (x y z : ℕ) (r s t : Bool) → then_by x y r ≡ true → then_by y z s ≡ true → (r ≡ true → s ≡ true → t ≡ true) → then_by x z t ≡ true
then_trans x y z r s t h k more = grind (arith, nat_tests)

pub then_tied : (x y : ℕ) (r s : Bool) → then_by x y r ≡ false → then_by y x s ≡ false → (x ≡ y) × (r ≡ false) × (s ≡ false)
then_tied x y r s h k = grind (arith, nat_tests)

pub lt_irreflexive : (x : ℕ) → nat_lt x x ≡ false
lt_irreflexive x = grind (arith, nat_tests)

pub then_irreflexive : (x : ℕ) (r : Bool) → r ≡ false → then_by x x r ≡ false
then_irreflexive x r h = grind (arith, nat_tests)

pub lt_trans : (x y z : ℕ) → nat_lt x y ≡ true → nat_lt y z ≡ true → nat_lt x z ≡ true
lt_trans x y z h k = grind (arith, nat_tests)

pub lt_tied : (x y : ℕ) → nat_lt x y ≡ false → nat_lt y x ≡ false → x ≡ y
lt_tied x y h k = grind (arith, nat_tests)

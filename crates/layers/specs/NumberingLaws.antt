-- A margin and a rotation stay within the memory below, and keep their lines apart.
use Rattle.std.specs.Prelude.{◌≡◌, ℕ, ◌+◌, ◌-◌, ◌/◌, ◌%◌, ◌<◌, cond}
use Rattle.std.proofs.Common.{ltb, sym, ◌∙◌, mod-lt, mod-eq_of_lt, arith}
use native.Mathlib.Nat.{add-mod-mod, mod-eq-sub-mod}
use Rattle.std.proofs.lemmas.Bool.{cond_both, ltb-true, ltb-false}
use Rattle.std.proofs.lemmas.Bool.Decides.{nat_tests}
use Rattle.layers.specs.Layers.{Sound, margin, rotation}

pub margin_sound : (hidden : ℕ) → Sound (margin hidden)
margin_sound hidden = record { view = λ size. record { within = λ i h. omega arith; apart = λ k l _ _ e. omega arith } }

-- A turn of fewer than n lines, and of any number of them.
turn_small : (n by l : ℕ) → by < n → l < n → (l + by) % n ≡ cond (ltb (l + by) n) (l + by) (l + by - n)
turn_small n by l b h =
    cond_both (ltb (l + by) n) _ _ (λ x. (l + by) % n ≡ x)
    (λ e. mod-eq_of_lt (ltb-true (l + by) n e))
    (λ e. let past = ltb-false (l + by) n e in mod-eq-sub-mod past ∙ mod-eq_of_lt (omega arith))

turn_apart : (n by k l : ℕ) → k < n → l < n → (k + by) % n ≡ (l + by) % n → k ≡ l
turn_apart n by k l hk hl e =
    let b : by % n < n = mod-lt by (omega arith) in
    let ek = sym (add-mod-mod k by n) ∙ turn_small n (by % n) k b hk in
    let el = sym (add-mod-mod l by n) ∙ turn_small n (by % n) l b hl in
    grind (arith, nat_tests)

pub rotation_sound : (by : ℕ) → Sound (rotation by)
rotation_sound by = record {
  view = λ size. record {
    within = λ i h. let turned : (i / 8 + by) % (size / 8) < size / 8 = mod-lt (i / 8 + by) (omega arith) in omega arith;
    apart = λ k l hk hl e. turn_apart (size / 8) by k l (omega arith) (omega arith) e;
  };
}

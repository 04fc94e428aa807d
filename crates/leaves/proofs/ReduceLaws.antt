-- What `reduce` gives over a known list, at a closure that acts as a function.
use Rattle.std.proofs.Common.{◌≡◌, List, [], ◌∷◌, Some, None, Option, sym, refl, ap, ◌∙◌}
use Rattle.std.specs.List.{FoldsTo, fold, reduce}
use Rattle.std.specs.Option.{MatchOption}
use Rattle.std.specs.Iterator.{Drains}
use Rattle.std.specs.Fn.{Called}
use Rattle.std.proofs.lemmas.Fn.{fold_same}
use Rattle.std.proofs.lemmas.List.{map-id}
use Rattle.std.proofs.lemmas.List.Sums.{fold_push}
use Rattle.std.proofs.lemmas.Iterator.{YieldsList, items_from_drains}
use denote.Param.Members.{Mut}

module _ {S A : Type 0} {steps : S → Option A → S → Type 0} {s : S} {all : List A} where
  whole : (xs : List A) → Drains steps s xs → YieldsList steps (λ x. x) s all → xs ≡ all
  whole xs d e = sym (map-id xs) ∙ items_from_drains xs (d.1.0, d.1.1, λ _. (d.0, d.1.2)) e

  pub reduced : {F : Type 0} (g : Mut F (A × (A × Unit {0})) A) (h : A → A → A) {f : F} (r : Option A)
      → MatchOption r (Drains steps s []) (λ y. (x : A) × (xs : List A) × (q : F) × Drains steps s (x ∷ xs) × FoldsTo {P = F × A} (λ p x q. Called g p.0 (p.1, (x, tt)) q.1 q.0) (f, x) xs (q, y))
      → YieldsList steps (λ x. x) s all → ((a x b : A) (q : F) → Called g f (a, (x, tt)) b q → (q ≡ f) × (b ≡ h a x)) → r ≡ reduce h all
  reduced g h None d e acts = ap (reduce h) (whole [] d e)
  reduced g h {f} (Some y) d e acts =
      let x = d.0 in
      ap Some (fold_same g (λ ys b. b ≡ fold h x ys) f (λ ys a z b q is k. let (stays, to) = acts a z b q k in (to ∙ ap (λ v. h v z) is ∙ sym (fold_push h x ys z), stays)) d.1 x y d.2 refl d.4)
      ∙ ap (reduce h) (whole (x ∷ d.1) d.3 e)

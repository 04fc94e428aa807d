-- One step of each walk of opening.
use Rattle.std.proofs.Common.{◌≡◌, ℕ, zero, suc, ◌+◌, ◌-◌, ◌<◌, Bool, true, false, ◌&&◌, ◌||◌, eqb, ltb, List, [], ◌∷◌, ◌++◌, length, Some, None, Ok, Err, Option, Result, ◌⊎◌, sym, refl, ap, ◌∙◌, ⊎_elim, arith}
use Rattle.std.specs.List.{list_any}
use Rattle.std.proofs.lemmas.Bool.{eq-eqb, ne_eqb, cond-true, cond-false}
use Rattle.std.proofs.lemmas.Bool.Decides.{nat_tests}
use Rattle.std.proofs.lemmas.List.{length_push}
use Rattle.keys.specs.InWords.{WordKind}
use Rattle.leaves.specs.declared.open.Fault.{Fault}
use Rattle.leaves.specs.Layout.{word, next_of, count_of}
use Rattle.leaves.specs.Opening.{bad_link_of, leaf_fault, greatest, member, ended, checked, walk}

-- A leaf's fault stands whatever comes after the leaf.
pub checked_err : {X Y : Type 0} (leaf : ℕ) (f : Option ℕ) (x : X) {e : Fault} (r : Result Y Fault) → checked leaf f (Ok x) ≡ Err e → checked leaf f r ≡ Err e
checked_err leaf None x r h = cc
checked_err leaf (Some s) x r h = cc

-- After a leaf without fault stands what comes after it.
pub checked_ok : {X Y : Type 0} (leaf : ℕ) (f : Option ℕ) (x : X) {z : X} (r : Result Y Fault) → checked leaf f (Ok x) ≡ Ok z → (checked leaf f r ≡ r) × (z ≡ x)
checked_ok leaf None x r h = (refl, cc)
checked_ok leaf (Some s) x r h = (cc, cc)

member_is : (x : ℕ) (ks : List ℕ) → list_any (λ y. eqb y x) ks ≡ member x ks
member_is x [] = refl
member_is x (k ∷ ks) = let ih = member_is x ks in grind (arith, nat_tests)

-- One turn of the walk.
module _ (o : WordKind) (m : List ℕ) where
  pub walk_ended : (n : ℕ) (used : List ℕ) (bound : Option (ℕ × ℕ)) (from link : ℕ) → link ≡ 0 → walk o m n used bound from link ≡ ended from used
  walk_ended zero used bound from link z = cond-true _ _ _ (eq-eqb link 0 z)
  walk_ended (suc n) used bound from link z = cond-true _ _ _ (eq-eqb link 0 z)

  pub walk_refused : (n : ℕ) (used : List ℕ) (bound : Option (ℕ × ℕ)) (from link : ℕ) → (link ≡ 0 → ⊥) → (n ≡ 0) ⊎ ((ltb (word m 3) link || list_any (λ y. eqb y link) used) ≡ true) → walk o m n used bound from link ≡ Err (bad_link_of from)
  walk_refused zero used bound from link some h = cond-false _ _ _ (ne_eqb link 0 some)
  walk_refused (suc n) used bound from link some h =
      cond-false _ _ _ (ne_eqb link 0 some) ∙ cond-true _ _ _ (⊎_elim (λ z. absurd (omega arith)) (λ t. rw (member_is link used) at t) h)

-- The same where the walk goes on, from what is known of it: `rest` is what remains of the answer `all`.
module _ (o : WordKind) (m : List ℕ) (leaves : ℕ) (used : List ℕ) (bound : Option (ℕ × ℕ)) (from link : ℕ) {all : Result (List ℕ) Fault}
    (rest : walk o m (leaves - 1 - length used) used bound from link ≡ all) where
  module _ (some : link ≡ 0 → ⊥) (spare : length used + 1 < leaves) (fine : (ltb (word m 3) link || list_any (λ y. eqb y link) used) ≡ false) {b : List ℕ} {next : ℕ} {alone : Bool}
      (same : b ≡ m) (follows : next ≡ next_of m link) (lone : alone ≡ (eqb from 0 && eqb next 0)) where
    next_walk : Result (List ℕ) Fault
    next_walk = walk o m (leaves - 1 - (length used + 1)) (used ++ (link ∷ [])) (greatest o m link (count_of m link)) link (next_of m link)

    checked_here : checked link (leaf_fault o m bound alone link) next_walk ≡ all
    unfolding next_walk
    checked_here =
        let more : leaves - 1 - length used ≡ suc (leaves - 1 - (length used + 1)) = omega arith in
        rw (lone, follows) (sym (cond-false (eqb link 0) _ _ (ne_eqb link 0 some) ∙ cond-false _ _ _ (rw (member_is link used) at fine)) ∙ rw more at rest)

    pub fault_here : {e : Fault} → Err e ≡ checked link (leaf_fault o b bound alone link) (Ok (greatest o b link (count_of b link))) → Err e ≡ all
    fault_here h = sym (checked_err link (leaf_fault o m bound alone link) (greatest o m link (count_of m link)) next_walk (sym (rw same at h))) ∙ checked_here

    pub on_here : {top : Option (ℕ × ℕ)} {longer : List ℕ} → Ok top ≡ checked link (leaf_fault o b bound alone link) (Ok (greatest o b link (count_of b link))) → longer ≡ used ++ (link ∷ [])
        → walk o m (leaves - 1 - length longer) longer top link next ≡ all
    unfolding next_walk
    on_here {longer = longer} h more =
        let (on, is-top) = checked_ok link (leaf_fault o m bound alone link) (greatest o m link (count_of m link)) next_walk (sym (rw same at h)) in
        let n : length longer ≡ length used + 1 = ap length more ∙ length_push used link in
        rw (n, more, is-top, follows) (sym on ∙ checked_here)

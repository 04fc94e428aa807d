-- Plans that append, and the bounds after those that rewrite.
use Rattle.std.proofs.Common.{ℕ, ◌+◌, ◌==◌, leb, ◌∷◌, ◌++◌, take, drop, Option, refl, ap, ◌∙◌, take-append-drop, arith}
use Rattle.std.proofs.lemmas.Bool.{cond-true, cond-false, le-leb, ne_eqb}
use Rattle.leaves.specs.Layout.{count_of}
use Rattle.appends.specs.Calls.{put_elements, change_elements, remove_elements}
use Rattle.appends.proofs.AppendLaws.{append_cost_holds}
use Rattle.rewrites.specs.Bounds.{last_key}
use Rattle.rewrites.proofs.BoundLaws.{last_most}
use Rattle.plans.specs.declared.deed.Deed.{Deed}
use Rattle.plans.specs.declared.deed.Deed.TheVariants.{Put, Change, Remove}
use Rattle.plans.specs.Plan.{site, granted, elements, wish, carried, Plan}
use Rattle.plans.specs.Sorts.{steps_of, AppendsWithRoom, BoundsMove, LastIsGreatest}
use Rattle.plans.proofs.SiteLaws.{site_tells}

pub appends_with_room_hold : AppendsWithRoom
appends_with_room_hold choose o ordered m t w sound =
    let k = (site o t w).leaf in
    let at : (d : Deed) → Option ℕ → Plan = λ d held. carried choose o m t (site o t w) d (wish d held) in
    let there = site_tells o ordered m t w sound in
    record {
      put = λ r none room.
          let is = ap (at (Put w r)) (there ∙ none) ∙ cond-true (leb (count_of m k + 1) 16) _ _ (le-leb (count_of m k + 1) 16 room) in
          (is, ap steps_of is ∙ append_cost_holds k (count_of m k) w (put_elements r));
      change = λ old r held other room.
          let is = ap (at (Change w r)) (there ∙ held) ∙ ap (carried choose o m t (site o t w) (Change w r)) (cond-false (old == r) granted (elements (change_elements old r)) (ne_eqb old r other)) ∙ cond-true (leb (count_of m k + 2) 16) _ _ (le-leb (count_of m k + 2) 16 room) in
          (is, ap steps_of is ∙ append_cost_holds k (count_of m k) w (change_elements old r));
      remove = λ old held room.
          let is = ap (at (Remove w)) (there ∙ held) ∙ cond-true (leb (count_of m k + 1) 16) _ _ (le-leb (count_of m k + 1) 16 room) in
          (is, ap steps_of is ∙ append_cost_holds k (count_of m k) w (remove_elements old));
    }

pub bounds_move_hold : BoundsMove
bounds_move_hold place bs = record {
  split = λ f g. ap (λ i. take place bs ++ (last_key f.content ∷ drop i bs)) (omega arith);
  replace = λ f. ap (λ i. take place bs ++ drop i bs) (omega arith) ∙ take-append-drop place bs;
  merge = λ f. refl;
}

pub last_is_greatest_holds : LastIsGreatest
last_is_greatest_holds o ordered ps up = last_most o ordered ps up

-- The rule's decision is lawful, and how it splits.
use Rattle.std.proofs.Common.{◌≡◌, ℕ, ◌/◌, ◌≤◌, Bool, true, false, cond, ◌&&◌, ltb, leb, Some, None, Option, sym, refl, ap, ◌∙◌, ⊎_elim, arith}
use Rattle.std.proofs.lemmas.Bool.{both_ways, cases_Bool, cond-true, cond-false, cond_both, and_parts, and_from, leb-true, ltb-true, ltb-false, lt-ltb}
use Rattle.std.specs.Option.{option_map}
use Rattle.plans.specs.declared.deed.Call.{Call}
use Rattle.plans.specs.declared.deed.Call.TheVariants.{Put, Change, Remove}
use Rattle.plans.specs.declared.decision.Decision.{Decision}
use Rattle.plans.specs.declared.decision.Decision.TheVariants.{Split, Merge, Replace}
use Rattle.plans.specs.Deeds.{call_of, may_split}
use Rattle.plans.specs.Decisions.{few, SplitHalves, SplitOfSeventeen, NeverSplit}
use Rattle.plans.specs.Told.{NextLeaf, most_pairs, Counted, Mergeable, LawfulFor, DecisionLawful}
use Rattle.plans.specs.Room.{pairs_after, told_of, RuleSplits}

-- What is not split fits into one leaf.
unsplit_few : (c : Call) (n : ℕ) → n ≤ most_pairs c → (may_split c && ltb 8 n) ≡ false → n ≤ 16
unsplit_few Put n most f = omega (arith, ltb-false 8 n f)
unsplit_few Change n most f = most
unsplit_few Remove n most f = omega (arith, most)

pub most_seventeen : (c : Call) (n : ℕ) → n ≤ most_pairs c → n ≤ 17
most_seventeen Put n h = h
most_seventeen Change n h = omega (arith, h)
most_seventeen Remove n h = omega (arith, h)

few_merge : (n : ℕ) (next : Option NextLeaf) → n ≤ 8 → Counted next → few (option_map (λ (l : NextLeaf). l.count) next) ≡ true → Mergeable n next
few_merge n None small counted t = absurd (both_ways _ refl t)
few_merge n (Some l) small counted t = omega (arith, small, counted, leb-true l.count 8 t)

pub decision_lawful : DecisionLawful
decision_lawful t p =
    let n = t.pairs in
    let next = option_map (λ (l : NextLeaf). l.count) t.next in
    let most : n ≤ 17 = most_seventeen t.call n p.most in
    cond_both (may_split t.call && ltb 8 n) (Split (n / 2)) (cond (leb n 8 && few next) Merge Replace) (LawfulFor t)
    (λ yes. let (may, big) = and_parts (may_split t.call) (ltb 8 n) yes in let lt = ltb-true 8 n big in (may, omega arith, omega arith, omega arith, omega arith))
    (λ other. cond_both (leb n 8 && few next) Merge Replace (LawfulFor t) (λ yes. let (small, f) = and_parts (leb n 8) (few next) yes in few_merge n t.next (leb-true n 8 small) p.next f) (λ _. unsplit_few t.call n p.most other))

pub split_halves_hold : SplitHalves
split_halves_hold n next big small = record {
  split = cond-true (ltb 8 n) (Split (n / 2)) _ (lt-ltb 8 n big);
  left_least = omega arith;
  left_most = omega arith;
  right_least = omega arith;
  right_most = omega arith;
}

pub split_of_seventeen_holds : SplitOfSeventeen
split_of_seventeen_holds next = refl

abbrev pub is_split : Decision → Bool
is_split (Split left) = true
is_split Merge = false
is_split Replace = false

unsplit : (b : Bool) → is_split (cond b Merge Replace) ≡ false
unsplit b = cond_both b Merge Replace (λ d. is_split d ≡ false) (λ _. refl) (λ _. refl)

pub never_split_holds : NeverSplit
never_split_holds n left next h = both_ways _ (unsplit (leb n 8 && few next)) (ap is_split h)

pub rule_splits_holds : RuleSplits
rule_splits_holds o m t d =
    let n = pairs_after o m t d in
    let may = may_split (call_of d) in
    let rest = leb n 8 && few (option_map (λ (l : NextLeaf). l.count) (told_of o m t d).next) in
    let two : Decision = Split (n / 2) in (
      λ (left, is).
          ⊎_elim
          (λ yes. let (m, big) = and_parts may (ltb 8 n) yes in (m, ltb-true 8 n big))
          (λ no. absurd (both_ways _ (ap is_split (sym is ∙ cond-false (may && ltb 8 n) two (cond rest Merge Replace) no) ∙ unsplit rest) refl))
          (cases_Bool (may && ltb 8 n)),
      λ (m, big). (n / 2, cond-true (may && ltb 8 n) two (cond rest Merge Replace) (and_from may (ltb 8 n) m (lt-ltb 8 n big))),
    )

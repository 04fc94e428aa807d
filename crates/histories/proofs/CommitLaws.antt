-- The place of the word that a plan commits by, and what it says.
use Rattle.std.proofs.Common.{◌≡◌, ℕ, ◌+◌, ◌<◌, true, false, ◌==◌, leb, List, length, Some, None, Option, sym, refl, ap, ◌∙◌}
use Rattle.std.proofs.lemmas.Bool.{both_ways, cond_both}
use Rattle.refusal.specs.declared.Refusal.TheVariants.{NoRoom}
use Rattle.keys.specs.InWords.{WordKind}
use Rattle.leaves.specs.declared.leaf.Pair.{Pair}
use Rattle.leaves.specs.Layout.{leaf_at, count_of, word}
use Rattle.leaves.specs.Pairs.{lookup}
use Rattle.writes.specs.Writes.{Store}
use Rattle.appends.specs.Calls.{put_elements, change_elements, remove_elements}
use Rattle.rewrites.specs.Rewrite.{link_at, link_commit}
use Rattle.plans.specs.declared.decision.Decision.{Decision}
use Rattle.plans.specs.declared.decision.Decision.TheVariants.{Split, Merge, Replace}
use Rattle.plans.specs.declared.deed.Deed.{Deed}
use Rattle.plans.specs.declared.deed.Deed.TheVariants.{Put, Change, Remove}
use Rattle.plans.specs.Deeds.{key_of, call_of, elements_of}
use Rattle.plans.specs.Told.{Choice}
use Rattle.plans.specs.Plan.{Tree, Site, site, pairs_of, granted, elements, wish, crowded, fillings, Plan, refuse, writes, appending, rewriting, rewritten, written, carried, plan_by}
use Rattle.plans.specs.Room.{fits}
use Rattle.plans.proofs.FreeLaws.{taken_free}
use Rattle.histories.specs.Answering.{Unlinked}

-- Where the commit word of a call stands, and what it says.
pub record Placed (o : WordKind) (m : List ℕ) (t : Tree) (d : Deed) (s : Site) (commit : Store) : Type 0 where
  pub append : fits o m t d ≡ true → commit ≡ record { at = leaf_at s.leaf + 1; word = count_of m s.leaf + elements_of (call_of d) }
  pub rewrite : fits o m t d ≡ false → (commit.at ≡ link_at 2 s.before) × Unlinked m t commit.word

abbrev pub WellPlaced : WordKind → List ℕ → Tree → Deed → Site → Plan → Type 0
WellPlaced o m t d s (writes before commit after) = Placed o m t d s commit
WellPlaced o m t d s _ = Unit {0}

module _ (choose : Choice) (o : WordKind) (m : List ℕ) (t : Tree) (spare : length t.leaves < word m 3) (d : Deed) where
  abbrev s : Site
  s = site o t (key_of d)

  -- The first of the new leaves was free.
  first_free : (by : Decision) (ps : List Pair) (rest : List ℕ) → Unlinked m t (link_commit s.before (fillings by (word m 3) t.leaves t.last ps) rest).word
  first_free (Split left) ps rest = taken_free (word m 3) t.leaves t.last spare
  first_free Merge ps rest = taken_free (word m 3) t.leaves t.last spare
  first_free Replace ps rest = taken_free (word m 3) t.leaves t.last spare

  rewritten_placed : (ps : List Pair) (by : Decision) → fits o m t d ≡ false → WellPlaced o m t d s (rewritten o m t s ps by)
  rewritten_placed ps by unfit =
      cond_both (crowded by (word m 3) (length t.leaves)) (refuse NoRoom)
      (rewriting t s (fillings by (word m 3) t.leaves t.last _) _ _) (WellPlaced o m t d s) (λ few. tt)
      (λ room. record { append = λ fit. absurd (both_ways _ unfit fit); rewrite = λ _. (refl, first_free by _ _) })

  written_placed : (xs : List (ℕ × ℕ)) (ps : List Pair) → length xs ≡ elements_of (call_of d) → WellPlaced o m t d s (written choose o m t s d xs ps)
  written_placed xs ps many =
      let same : leb (count_of m s.leaf + length xs) 16 ≡ fits o m t d = ap (λ (n : ℕ). leb (count_of m s.leaf + n) 16) many in
      cond_both (leb (count_of m s.leaf + length xs) 16) (appending m t s.leaf (key_of d) xs) (rewritten o m t s ps _) (WellPlaced o m t d s)
      (λ fit. record {
        append = λ _. ap (λ (n : ℕ). record { at = leaf_at s.leaf + 1; word = count_of m s.leaf + n }) many;
        rewrite = λ unfit. absurd (both_ways _ unfit (sym same ∙ fit));
      })
      (λ full. rewritten_placed ps _ (sym same ∙ full))

module _ (choose : Choice) (o : WordKind) (m : List ℕ) (t : Tree) (spare : length t.leaves < word m 3) where
  abbrev at : Deed → Option ℕ → Plan
  at d held = carried choose o m t (site o t (key_of d)) d (wish d held)

  carried_placed : (d : Deed) (held : Option ℕ) → WellPlaced o m t d (site o t (key_of d)) (at d held)
  carried_placed (Put w r) None = written_placed choose o m t spare (Put w r) (put_elements r) _ refl
  carried_placed (Put w r) (Some old) = tt
  carried_placed (Change w r) None = tt
  carried_placed (Change w r) (Some old) =
      cond_both (old == r) granted (elements (change_elements old r)) (λ x. WellPlaced o m t (Change w r) (site o t w) (carried choose o m t (site o t w) (Change w r) x)) (λ same. tt)
      (λ other. written_placed choose o m t spare (Change w r) (change_elements old r) _ refl)
  carried_placed (Remove w) None = tt
  carried_placed (Remove w) (Some old) = written_placed choose o m t spare (Remove w) (remove_elements old) _ refl

  pub plan_placed : (d : Deed) → WellPlaced o m t d (site o t (key_of d)) (plan_by choose o m t d)
  plan_placed d = carried_placed d (lookup (key_of d) (pairs_of o m (site o t (key_of d)).leaf))

-- What a call leaves alone.
use Rattle.std.proofs.Common.{◌≡◌, ℕ, ◌/◌, ◌<◌, Bool, true, false, cond, eqb, List, [], ◌∷◌, ◌++◌, get_or, set, Ok, Err, Option, sym, refl, ◌∙◌, length-set, get_or-set_other, arith}
use Rattle.memory.specs.Meaning.{Words, size_of}
use Rattle.memory.proofs.Words.{tabled_at}
use Rattle.writes.specs.Writes.{Answer, LineWrite, Op, Run, Spared, Spares, Store, all_ops, answer, did, flush, line_ops, next, perform, run, store}
use Rattle.writes.specs.Laws.{change}
use Rattle.plans.specs.Deeds.{key_of}
use Rattle.plans.specs.Plan.{Plan, Tree, nothing, plan, refuse, writes}
use Rattle.plans.specs.Told.{by_rule}
use Rattle.plans.proofs.DecisionLaws.{decision_lawful}
use Rattle.plans.proofs.ReachLaws.{reaches_few_hold, reaches_in_area_hold}
use Rattle.index.specs.declared.table.Index.{Index}
use Rattle.tree.specs.declared.logbook.State.TheVariants.{Blank, Open, Dark}
use Rattle.tree.specs.Elsewhere.{LeavesOthers, LeavesOutside, Untouched}
use Rattle.tree.specs.Shape.{Shape}
use Rattle.tree.specs.Turning.{by_plan, number_for, tree_of, wrote}

-- Stores that do not go to a word, and flushes.
abbrev Off : ℕ → List Op → Type 0
Off i [] = Unit {0}
Off i (store s ∷ ops) = (i ≡ s.at → ⊥) × Off i ops
Off i (flush l ∷ ops) = Off i ops

off_line : (i l : ℕ) (ss : List Store) (rest : List Op) → Spared i ss → Off i rest → Off i (line_ops l ss ++ rest)
off_line i l [] rest h more = more
off_line i l (s ∷ ss) rest h more = (h.0, off_line i l ss rest h.1 more)

off_all : (i : ℕ) (ws : List LineWrite) → Spares i ws → Off i (all_ops ws)
off_all i [] h = tt
off_all i (w ∷ ws) h = off_line i w.line w.stores (all_ops ws) h.0 (off_all i ws h.1)

same : (m : Words) (i : ℕ) → Untouched m m i
same m i = record { live = refl; firm = λ settled. refl }

then_more : (a b c : Words) (i : ℕ) → Untouched a b i → Untouched b c i → Untouched a c i
then_more a b c i first more = record {
  live = more.live ∙ first.live;
  firm = λ settled. more.firm (first.live ∙ settled ∙ sym (first.firm settled)) ∙ first.firm settled;
}

set_firm : (t : Bool) (firm : List ℕ) (i at w : ℕ) → (i ≡ at → ⊥) → get_or (cond t (set firm at w) firm) i 0 ≡ get_or firm i 0
set_firm true firm i at w other = get_or-set_other firm at i w 0 other
set_firm false firm i at w other = refl

stored_off : (m : Words) (s : Store) (i : ℕ) → (i ≡ s.at → ⊥) → Untouched m (did m (store s)) i
stored_off m s i other = record { live = get_or-set_other m.live s.at i s.word 0 other; firm = λ settled. set_firm m.through m.firm i s.at s.word other }

either : (b : Bool) (x y : ℕ) → x ≡ y → cond b x y ≡ y
either true x y e = e
either false x y e = refl

flushed_off : (m : Words) (l i : ℕ) → i < size_of m → Untouched m (did m (flush l)) i
flushed_off m l i inside = record { live = refl; firm = λ settled. tabled_at (size_of m) _ i inside ∙ either (eqb (i / 8) l) (get_or m.live i 0) (get_or m.firm i 0) settled }

after_next : (m d : Words) (a : Answer) (r : Run) (i : ℕ) → Untouched m d i → Untouched d r.after i → Untouched m (next m a r).after i
after_next m d (Ok tt) r i first more = then_more m d r.after i first more
after_next m d (Err e) r i first more = same m i

run_off : (m : Words) (ops : List Op) (i : ℕ) → i < size_of m → Off i ops → Untouched m (run m ops).after i
unfolding run
run_off m [] i inside off = same m i
run_off m (store s ∷ ops) i inside off =
    let more = run_off (did m (store s)) ops i (omega (arith, inside, length-set m.live s.at s.word)) off.1 in
    after_next m (did m (store s)) (answer m (store s)) (run (did m (store s)) ops) i (stored_off m s i off.0) more
run_off m (flush l ∷ ops) i inside off =
    after_next m (did m (flush l)) (answer m (flush l)) (run (did m (flush l)) ops) i (flushed_off m l i inside) (run_off (did m (flush l)) ops i inside off)

performed_off : (m : Words) (ws : List LineWrite) (i : ℕ) → i < size_of m → Spares i ws → Untouched m (perform m ws).after i
unfolding perform
performed_off m ws i inside spared = run_off m (all_ops ws) i inside (off_all i ws spared)

wrote_off : (m after : Words) (steps : ℕ) (a : Answer) (shape : Shape) (old new : Option ℕ) (i : ℕ) → Untouched m after i → Untouched m (wrote after steps a shape old new).memory i
wrote_off m after steps (Ok tt) shape old new i h = h
wrote_off m after steps (Err e) shape old new i h = h

plan_off : (m : Words) (n : ℕ) (x : Index) (last : Option ℕ) (p : Plan) (i : ℕ) → i < size_of m → ((before : List LineWrite) (commit : Store) (after : Tree) → p ≡ writes before commit after → Spares i (change before commit))
    → Untouched m (by_plan n m x last p).memory i
plan_off m n x last (refuse e) i inside spares = same m i
plan_off m n x last nothing i inside spares = same m i
plan_off m n x last (writes before commit after) i inside spares =
    let r = perform m (change before commit) in wrote_off m r.after r.steps r.ended _ last after.last i (performed_off m (change before commit) i inside (spares before commit after refl))

pub leaves_others_hold : LeavesOthers
leaves_others_hold o ordered m Blank last d sound valid i inside off = same m i
leaves_others_hold o ordered m (Open x) last d sound valid i inside off =
    let t = tree_of x last in
    plan_off m (number_for o x (key_of d)) x last (plan o m.live t d) i inside
    (λ before commit after is. reaches_few_hold by_rule decision_lawful o ordered m.live t d before commit after (record { opens = sound.opens; bounded = sound.bounded }) valid is i off)
leaves_others_hold o ordered m Dark last d sound valid i inside off = same m i

pub leaves_outside_hold : LeavesOutside
leaves_outside_hold o ordered m Blank last d sound valid i inside off = same m i
leaves_outside_hold o ordered m (Open x) last d sound valid i inside off =
    leaves_others_hold o ordered m (Open x) last d sound valid i inside
    (λ reached. off (reaches_in_area_hold o ordered m.live (tree_of x last) (key_of d) i (record { opens = sound.opens; bounded = sound.bounded }) reached))
leaves_outside_hold o ordered m Dark last d sound valid i inside off = same m i

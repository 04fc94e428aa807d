-- What stores and flushes leave if each is granted, and the part of them that a run did.
use Rattle.std.proofs.Common.{◌≡◌, ℕ, suc, ◌≤◌, Bool, true, false, cond, List, [], ◌∷◌, ◌++◌, length, take, set, Ok, Err, sym, refl, ap, ◌∙◌, arith}
use Rattle.std.proofs.lemmas.List.{length-set, take_all}
use Rattle.memory.specs.Meaning.{Words, Lawful, size_of}
use Rattle.writes.specs.Writes.{Answer, Store, Op, store, flush, LineWrite, fall, answer, did, done, next, run, line_ops, all_ops, applied, finished}
use Rattle.writes.proofs.Mixes.{in_line, length_picked, picked_one}
use Rattle.writes.proofs.Runs.{fall_none, spent_fall}
use Rattle.writes.proofs.Steps.{first_steps_hold}

pub done_append : (m : Words) (a b : List Op) → done m (a ++ b) ≡ done (done m a) b
done_append m [] b = refl
done_append m (o ∷ a) b = done_append (did m o) a b

did_size : (m : Words) (o : Op) → size_of (did m o) ≡ size_of m
did_size m (store s) = length-set m.live s.at s.word
did_size m (flush l) = refl

pub done_size : (m : Words) (ops : List Op) → size_of (done m ops) ≡ size_of m
done_size m [] = refl
done_size m (o ∷ ops) = done_size (did m o) ops ∙ did_size m o

did_through : (m : Words) (o : Op) → (did m o).through ≡ m.through
did_through m (store s) = refl
did_through m (flush l) = refl

pub done_through : (m : Words) (ops : List Op) → (done m ops).through ≡ m.through
done_through m [] = refl
done_through m (o ∷ ops) = done_through (did m o) ops ∙ did_through m o

did_power : (m : Words) (o : Op) (k : ℕ) → fall (did m o).power k ≡ fall m.power (suc k)
did_power m (store s) k = spent_fall m.power k
did_power m (flush l) k = spent_fall m.power k

-- One step for each.
pub done_power : (m : Words) (ops : List Op) → (done m ops).power ≡ fall m.power (length ops)
done_power m [] = sym (fall_none m.power)
done_power m (o ∷ ops) = done_power (did m o) ops ∙ did_power m o (length ops)

did_lawful : (m : Words) (o : Op) → Lawful m → Lawful (did m o)
did_lawful m (store s) laws = record {
  level = length-set m.live s.at s.word ∙ (laws.level ∙ sym (firm_length m.through));
  settled = λ t. firm_same t;
}
  where
    firm_length : (t : Bool) → length (cond t (set m.firm s.at s.word) m.firm) ≡ length m.firm
    firm_length true = length-set m.firm s.at s.word
    firm_length false = refl

    firm_same : m.through ≡ true → set m.live s.at s.word ≡ cond m.through (set m.firm s.at s.word) m.firm
    firm_same t = rw t (ap (λ (x : List ℕ). set x s.at s.word) (laws.settled t))
did_lawful m (flush l) laws = record {
  level = sym (length_picked (in_line l) m.live m.firm);
  settled = λ t. rw (← laws.settled t) (sym (picked_one (in_line l) m.live));
}

pub done_lawful : (m : Words) (ops : List Op) → Lawful m → Lawful (done m ops)
done_lawful m [] laws = laws
done_lawful m (o ∷ ops) laws = done_lawful (did m o) ops (did_lawful m o laws)

-- The live words after line writes are the words with their stores made in them.
pub done_line_live : (m : Words) (l : ℕ) (ss : List Store) → (done m (line_ops l ss)).live ≡ applied m.live ss
done_line_live m l [] = refl
done_line_live m l (s ∷ ss) = done_line_live (did m (store s)) l ss

pub done_live : (m : Words) (ws : List LineWrite) → (done m (all_ops ws)).live ≡ finished m.live ws
done_live m [] = refl
done_live m (w ∷ ws) =
    ap (λ (x : Words). x.live) (done_append m (line_ops w.line w.stores) (all_ops ws))
    ∙ (done_live (done m (line_ops w.line w.stores)) ws ∙ ap (λ (x : List ℕ). finished x ws) (done_line_live m w.line w.stores))

-- No run takes more steps than it has stores and flushes.
pub run_few : (m : Words) (ops : List Op) → (run m ops).steps ≤ length ops
unfolding run
run_few m [] = omega arith
run_few m (o ∷ ops) = at (answer m o) (run_few (did m o) ops)
  where
    at : (a : Answer) → (run (did m o) ops).steps ≤ length ops → (next m a (run (did m o) ops)).steps ≤ suc (length ops)
    at (Ok tt) h = omega arith
    at (Err x) h = omega arith

-- A run that is granted whole took a step for each, and left what all of them leave.
pub run_granted : (m : Words) (ops : List Op) → (run m ops).ended ≡ Ok tt → (run m ops).steps ≡ length ops
unfolding run
run_granted m [] e = refl
run_granted m (o ∷ ops) e = at (answer m o) (run_granted (did m o) ops) e
  where
    at : (a : Answer) → ((run (did m o) ops).ended ≡ Ok tt → (run (did m o) ops).steps ≡ length ops)
        → (next m a (run (did m o) ops)).ended ≡ Ok tt → (next m a (run (did m o) ops)).steps ≡ suc (length ops)
    at (Ok tt) h e = ap suc (h e)
    at (Err x) h e = let z : ◌≡◌ {A = ℕ} 0 1 = cc in absurd (omega arith)

pub run_done : (m : Words) (ops : List Op) → (run m ops).ended ≡ Ok tt → (run m ops).after ≡ done m ops
run_done m ops e =
    let k = run_granted m ops e in
    first_steps_hold m ops ∙ ap (done m) (take_all (run m ops).steps ops (omega arith))

-- Whatever a run did, the memory is as large, of the same make, and lawful.
pub run_size : (m : Words) (ops : List Op) → size_of (run m ops).after ≡ size_of m
run_size m ops = ap size_of (first_steps_hold m ops) ∙ done_size m (take (run m ops).steps ops)

pub run_through : (m : Words) (ops : List Op) → (run m ops).after.through ≡ m.through
run_through m ops = ap (λ (x : Words). x.through) (first_steps_hold m ops) ∙ done_through m (take (run m ops).steps ops)

pub run_lawful : (m : Words) (ops : List Op) → Lawful m → Lawful (run m ops).after
run_lawful m ops laws = rw (first_steps_hold m ops) (done_lawful m (take (run m ops).steps ops) laws)

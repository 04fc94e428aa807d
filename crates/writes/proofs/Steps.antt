-- On any memory: more power never loses a step, and what is done is the first of what was asked for.
use Rattle.std.proofs.Common.{◌≡◌, ℕ, zero, suc, ◌*◌, false, leb, ◌⊎◌, List, [], ◌∷◌, length, take, Ok, Err, refl, ap, inl, inr, ⊎_elim, arith}
use Rattle.std.proofs.lemmas.Bool.{ne_eqb, cases_Bool}
use Rattle.refusal.specs.declared.Refusal.{Refusal}
use Rattle.refusal.specs.declared.Refusal.TheVariants.{Outside, NoPower}
use Rattle.memory.specs.Meaning.{Words, Power, left, spent, exhausted}
use Rattle.writes.specs.Writes.{Answer, Op, store, flush, Run, tick, next, run, done, did, answer}
use Rattle.writes.proofs.Runs.{alive, enough_spent}
use Rattle.writes.specs.Laws.{Enough, powered, RanOut, Unchanged, More, FirstSteps}

-- What a memory answers for want of power, and otherwise.
record Asked (m : Words) (o : Op) : Type 0 where
  none : (answer (powered m (left 0)) o ≡ Err NoPower) ⊎ ((q : Power) → answer (powered m q) o ≡ Err Outside)
  alike : (p q : Power) → exhausted p ≡ false → exhausted q ≡ false → answer (powered m p) o ≡ answer (powered m q) o

asked : (m : Words) (o : Op) → Asked m o
asked m (store s) = record {
  none = ⊎_elim (λ out. inr (λ q. cc)) (λ within. inl (cc)) (cases_Bool (leb (length m.live) s.at));
  alike = λ p q a b. cc;
}
asked m (flush l) = record {
  none = ⊎_elim (λ out. inr (λ q. cc)) (λ within. inl (cc)) (cases_Bool (leb (length m.live) (8 * l)));
  alike = λ p q a b. cc;
}

ticks : (r more : Run) (n : ℕ) → RanOut r more n ⊎ Unchanged r more → RanOut (tick r) (tick more) (suc n) ⊎ Unchanged (tick r) (tick more)
ticks r more n = ⊎_elim
    (λ out. inl (record { ended = out.ended; steps = ap suc out.steps; no_fewer = omega arith }))
    (λ same. inr (record { ended = same.ended; steps = ap suc same.steps; live = same.live; firm = same.firm }))

abbrev MoreOf : Words → List Op → ℕ → Power → Type 0
MoreOf m ops n q = RanOut (run (powered m (left n)) ops) (run (powered m q) ops) n ⊎ Unchanged (run (powered m (left n)) ops) (run (powered m q) ops)

did_powered : (m : Words) (o : Op) (q : Power) → did (powered m q) o ≡ powered (did m o) (spent q)
did_powered m (store s) q = refl
did_powered m (flush l) q = refl

granted : (m : Words) (o : Op) (ops : List Op) (q : Power) → answer (powered m q) o ≡ Ok tt
    → run (powered m q) (o ∷ ops) ≡ tick (run (powered (did m o) (spent q)) ops)
unfolding run
granted m o ops q e = let d = did_powered m o q in cc

refused : (m : Words) (o : Op) (ops : List Op) (x : Refusal) → answer m o ≡ Err x → run m (o ∷ ops) ≡ record { after = m; steps = 0; ended = Err x }
unfolding run
refused m o ops x e = cc

both_refused : (m : Words) (o : Op) (ops : List Op) (n : ℕ) (q : Power) (x : Refusal)
    → answer (powered m (left n)) o ≡ Err x → answer (powered m q) o ≡ Err x → MoreOf m (o ∷ ops) n q
both_refused m o ops n q x e f =
    rw (refused (powered m (left n)) o ops x e, refused (powered m q) o ops x f) (inr (record { ended = refl; steps = refl; live = refl; firm = refl }))

-- The next operation is refused alike, or granted alike.
step : (m : Words) (o : Op) (ops : List Op) (n : ℕ) (q : Power) (a : Answer)
    → answer (powered m (left (suc n))) o ≡ a → answer (powered m q) o ≡ a
    → MoreOf (did m o) ops n (spent q) → MoreOf m (o ∷ ops) (suc n) q
step m o ops n q (Ok tt) e f h =
    let one : spent (left (suc n)) ≡ left n = ap left (omega arith) in
    rw (granted m o ops (left (suc n)) e, granted m o ops q f, one) (ticks _ _ n h)
step m o ops n q (Err x) e f h = both_refused m o ops (suc n) q x e f

more : (m : Words) (ops : List Op) (n : ℕ) (q : Power) → Enough q n → MoreOf m ops n q
unfolding run
more m [] n q h = inr (record { ended = refl; steps = refl; live = refl; firm = refl })
more m (o ∷ ops) zero q h =
    ⊎_elim
    (λ e. inl (rw (refused (powered m (left 0)) o ops NoPower e) (record { ended = refl; steps = refl; no_fewer = omega arith })))
    (λ out. both_refused m o ops 0 q Outside (out (left 0)) (out q))
    (asked m o).none
more m (o ∷ ops) (suc n) q h =
    step m o ops n q _ refl ((asked m o).alike q (left (suc n)) (alive q n h) (ne_eqb (suc n) 0 (omega arith)))
    (more (did m o) ops n (spent q) (enough_spent q n h))

pub more_holds : More
more_holds m ops n q h = more m ops n q h

first : (m : Words) (o : Op) (ops : List Op) (a : Answer) → answer m o ≡ a
    → (run (did m o) ops).after ≡ done (did m o) (take (run (did m o) ops).steps ops)
    → (next m a (run (did m o) ops)).after ≡ done m (take (next m a (run (did m o) ops)).steps (o ∷ ops))
first m o ops (Ok tt) e h = h
first m o ops (Err x) e h = refl

pub first_steps_hold : FirstSteps
unfolding run
first_steps_hold m [] = refl
first_steps_hold m (o ∷ ops) = first m o ops (answer m o) refl (first_steps_hold (did m o) ops)

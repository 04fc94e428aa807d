-- What a change keeps: bounds that part keys ascend, and what line writes leave of the memory.
use Rattle.std.proofs.Common.{◌≡◌, ℕ, zero, suc, ◌*◌, ◌<◌, ◌≤◌, Bool, true, false, eqb, leb, cond, List, [], ◌∷◌, ◌++◌, length, take, get_or, None, Ok, Err, sym, refl, ap, ◌∙◌, subst, inl, inr, ⊎_elim, length-append, length-set, length-take, arith}
use Rattle.std.proofs.lemmas.Bool.{cases_Bool, cond-false, false≢true, lt-leb}
use Rattle.refusal.specs.declared.Refusal.{Refusal}
use Rattle.refusal.specs.declared.Refusal.TheVariants.{NoPower, Outside, Unsettled}
use Rattle.keys.specs.InWords.{WordKind, WordOrdered}
use Rattle.memory.specs.Meaning.{Power, Words, endless, exhausted, flush_answer, left, size_of, spent, store_answer}
use Rattle.writes.specs.Laws.{Enough}
use Rattle.writes.specs.Writes.{Answer, LineWrite, Lined, Op, Proper, Run, Store, all_ops, answer, cost, did, fall, finished, flush, line_ops, next, perform, run, store}
use Rattle.writes.proofs.Done.{done_live, done_power, run_done, run_few}
use Rattle.writes.proofs.Steps.{first_steps_hold}
use Rattle.leaves.specs.Layout.{element}
use Rattle.leaves.proofs.BookLaws.{err_ok}
use Rattle.books.specs.Bounds.{Bounded, Keys, locate}
use Rattle.books.specs.Opens.{AllFine, lone}
use Rattle.books.proofs.BoundLaws.{Busy, all_busy, locates_hold}
use Rattle.index.specs.Search.{Above, Ascending}
use Rattle.tree.specs.Calls.{FromMemory}

module _ (o : WordKind) (ordered : WordOrdered o) (m : List ℕ) where
  -- Between a leaf's bound and a later key a later bound fits.
  bound_above : (b c x : ℕ × ℕ) → o.before b x ≡ true → o.before c x ≡ false → o.before b c ≡ true
  bound_above b c x less past =
      ⊎_elim (λ t. t)
      (λ f. absurd (false≢true (sym past ∙ ⊎_elim (λ over. ordered.transitive c b x over less) (λ tied. subst (λ y. o.before y x ≡ true) (ordered.connected b c f tied) less) (cases_Bool (o.before c b)))))
      (cases_Bool (o.before b c))

  above_busy : (b : ℕ × ℕ) (ks : List ℕ) (bs : List (ℕ × ℕ)) → Busy m ks → Keys (λ x. o.before b x ≡ true) m ks → Bounded o m ks bs → Above o b bs
  above_busy b [] bs busy keys h = absurd h
  above_busy b (k ∷ []) [] busy keys h = tt
  above_busy b (k ∷ []) (c ∷ bs) busy keys h = absurd h
  above_busy b (k ∷ l ∷ ks) [] busy keys h = absurd h
  above_busy b (k ∷ l ∷ ks) (c ∷ bs) busy keys h = (
    bound_above b c (element m k 0).key (keys.0 0 busy.0) (h.0 0 busy.0),
    above_busy b (l ∷ ks) bs busy.1 keys.1 h.2,
  )

  ascends_busy : (ks : List ℕ) (bs : List (ℕ × ℕ)) → Busy m ks → Bounded o m ks bs → Ascending o bs
  ascends_busy [] bs busy h = absurd h
  ascends_busy (k ∷ []) [] busy h = tt
  ascends_busy (k ∷ []) (c ∷ bs) busy h = absurd h
  ascends_busy (k ∷ l ∷ ks) [] busy h = absurd h
  ascends_busy (k ∷ l ∷ ks) (c ∷ bs) busy h = (above_busy c (l ∷ ks) bs busy.1 h.1 h.2, ascends_busy (l ∷ ks) bs busy.1 h.2)

  -- Where no leaf is empty but a lone one, bounds that part the keys ascend.
  pub bounded_ascends : (ks : List ℕ) (bs : List (ℕ × ℕ)) → AllFine o m (lone ks) None ks → Bounded o m ks bs → Ascending o bs
  bounded_ascends [] bs fine h = absurd h
  bounded_ascends (k ∷ []) [] fine h = tt
  bounded_ascends (k ∷ []) (c ∷ bs) fine h = absurd h
  bounded_ascends (k ∷ l ∷ ks) bs fine h = ascends_busy (k ∷ l ∷ ks) bs (all_busy o m None (k ∷ l ∷ ks) fine) h

  -- The number that a key belongs to is one of a leaf.
  pub number_there : (ks : List ℕ) (bs : List (ℕ × ℕ)) (w : ℕ × ℕ) → Bounded o m ks bs → locate o w bs < length ks
  number_there ks bs w h = let p = locates_hold o ordered m ks bs w h in omega (arith, p.place, ap length p.leaves, length-append p.pre (p.leaf ∷ p.post))

-- A store or flush within the memory is refused by its power or for an unsettled word alone.
pub same_refusal : (a b : Refusal) → ◌≡◌ {A = Answer} (Err a) (Err b) → a ≡ b
same_refusal a b e = cc

within_refusal : (dry same : Bool) (e : Refusal) → ◌≡◌ {A = Answer} (cond dry (Err NoPower) (cond same (Ok tt) (Err Unsettled))) (Err e) → FromMemory e
within_refusal true same e h = inl (sym (same_refusal NoPower e h))
within_refusal false true e h = err_ok h refl
within_refusal false false e h = inr (sym (same_refusal Unsettled e h))

store_refusal : (m : Words) (i : ℕ) (e : Refusal) → i < size_of m → store_answer m i ≡ Err e → FromMemory e
store_refusal m i e h r =
    within_refusal (exhausted m.power) (eqb (get_or m.live i 0) (get_or m.firm i 0)) e (sym (cond-false (leb (size_of m) i) (Err Outside) _ (lt-leb (size_of m) i h)) ∙ r)

flush_refusal : (m : Words) (l : ℕ) (e : Refusal) → 8 * l < size_of m → flush_answer m l ≡ Err e → FromMemory e
flush_refusal m l e h r = within_refusal (exhausted m.power) true e (sym (cond-false (leb (size_of m) (8 * l)) (Err Outside) _ (lt-leb (size_of m) (8 * l) h)) ∙ r)

-- Stores and flushes within a memory of so many words.
abbrev Inside : ℕ → List Op → Type 0
Inside size [] = Unit {0}
Inside size (store s ∷ ops) = (s.at < size) × Inside size ops
Inside size (flush l ∷ ops) = (8 * l < size) × Inside size ops

inside_line : (size l : ℕ) (ss : List Store) (rest : List Op) → 8 * l < size → Lined size l ss → Inside size rest → Inside size (line_ops l ss ++ rest)
inside_line size l [] rest low lined more = (low, more)
inside_line size l (s ∷ ss) rest low lined more = (lined.0, inside_line size l ss rest low lined.3 more)

inside_all : (size : ℕ) (ws : List LineWrite) → Proper size ws → Inside size (all_ops ws)
inside_all size [] h = tt
inside_all size (w ∷ ws) h = inside_line size w.line w.stores (all_ops ws) h.0 h.1 (inside_all size ws h.2)

at_refusal : (a : Answer) (r : Run) (m : Words) (e : Refusal) → ((x : Refusal) → a ≡ Err x → FromMemory x) → (r.ended ≡ Err e → FromMemory e) → (next m a r).ended ≡ Err e → FromMemory e
at_refusal (Ok tt) r m e own more q = more q
at_refusal (Err x) r m e own more q = own e q

run_refusal : (m : Words) (size : ℕ) (ops : List Op) (e : Refusal) → size_of m ≡ size → Inside size ops → (run m ops).ended ≡ Err e → FromMemory e
unfolding run
run_refusal m size [] e long h r = err_ok r refl
run_refusal m size (store s ∷ ops) e long h r =
    at_refusal (store_answer m s.at) (run (did m (store s)) ops) m e (λ x. store_refusal m s.at x (omega (arith, long, h.0)))
    (run_refusal (did m (store s)) size ops e (length-set m.live s.at s.word ∙ long) h.1) r
run_refusal m size (flush l ∷ ops) e long h r =
    at_refusal (flush_answer m l) (run (did m (flush l)) ops) m e (λ x. flush_refusal m l x (omega (arith, long, h.0)))
    (run_refusal (did m (flush l)) size ops e long h.1) r

length_line : (l : ℕ) (ss : List Store) → length (line_ops l ss) ≡ suc (length ss)
length_line l [] = refl
length_line l (s ∷ ss) = ap suc (length_line l ss)

length_ops : (ws : List LineWrite) → length (all_ops ws) ≡ cost ws
length_ops [] = refl
length_ops (w ∷ ws) = omega (arith, length-append (line_ops w.line w.stores) (all_ops ws), length_line w.line w.stores, length_ops ws)

-- The steps that were taken had been there.
pub enough_none : (p : Power) → Enough p 0
enough_none endless = tt
enough_none (left n) = omega arith

enough_back : (p : Power) (k : ℕ) → exhausted p ≡ false → Enough (spent p) k → Enough p (suc k)
enough_back endless k bright h = tt
enough_back (left zero) k bright h = absurd (false≢true (sym bright))
enough_back (left (suc n)) k bright h = omega arith

granted_bright : (out dry same : Bool) → ◌≡◌ {A = Answer} (cond out (Err Outside) (cond dry (Err NoPower) (cond same (Ok tt) (Err Unsettled)))) (Ok tt) → dry ≡ false
granted_bright true dry same h = err_ok refl h
granted_bright false true same h = err_ok refl h
granted_bright false false same h = refl

enough_did : (m : Words) (o : Op) (k : ℕ) → answer m o ≡ Ok tt → Enough (did m o).power k → Enough m.power (suc k)
enough_did m (store s) k h more = enough_back m.power k (granted_bright (leb (size_of m) s.at) (exhausted m.power) (eqb (get_or m.live s.at 0) (get_or m.firm s.at 0)) h) more
enough_did m (flush l) k h more = enough_back m.power k (granted_bright (leb (size_of m) (8 * l)) (exhausted m.power) true h) more

enough_next : (m : Words) (o : Op) (a : Answer) (r : Run) → answer m o ≡ a → Enough (did m o).power r.steps → Enough m.power (next m a r).steps
enough_next m o (Ok tt) r is more = enough_did m o r.steps is more
enough_next m o (Err e) r is more = enough_none m.power

run_enough : (m : Words) (ops : List Op) → Enough m.power (run m ops).steps
unfolding run
run_enough m [] = enough_none m.power
run_enough m (o ∷ ops) = enough_next m o (answer m o) (run (did m o) ops) refl (run_enough (did m o) ops)

-- What line writes leave, granted whole or not.
module _ (m : Words) (ws : List LineWrite) where
  pub performed_refusal : (e : Refusal) → Proper (size_of m) ws → (perform m ws).ended ≡ Err e → FromMemory e
  unfolding perform
  performed_refusal e proper r = run_refusal m (size_of m) (all_ops ws) e refl (inside_all (size_of m) ws proper) r

  pub performed_live : (perform m ws).ended ≡ Ok tt → (perform m ws).after.live ≡ finished m.live ws
  unfolding perform
  performed_live e = ap (λ (x : Words). x.live) (run_done m (all_ops ws) e) ∙ done_live m ws

  pub performed_few : (perform m ws).steps ≤ cost ws
  unfolding perform
  performed_few = omega (arith, run_few m (all_ops ws), length_ops ws)

  pub performed_enough : Enough m.power (perform m ws).steps
  unfolding perform
  performed_enough = run_enough m (all_ops ws)

  pub performed_power : (perform m ws).after.power ≡ fall m.power (perform m ws).steps
  unfolding perform
  performed_power =
      let n = (run m (all_ops ws)).steps in
      let many : length (take n (all_ops ws)) ≡ n = omega (arith, length-take n (all_ops ws), run_few m (all_ops ws)) in
      ap (λ (x : Words). x.power) (first_steps_hold m (all_ops ws)) ∙ (done_power m (take n (all_ops ws)) ∙ ap (fall m.power) many)

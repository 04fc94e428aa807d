-- Line writes on a settled memory: whole with enough power, cut short without.
use Rattle.std.proofs.Common.{◌≡◌, ℕ, zero, suc, ◌+◌, ◌-◌, ◌*◌, ◌<◌, ◌≤◌, Bool, true, false, cond, List, [], ◌∷◌, ◌++◌, length, get_or, take, set, Ok, Err, sym, refl, ap, ◌∙◌, ⊎_elim, zero-add, arith, length-set, get_or-set_other}
use Rattle.std.proofs.lemmas.Bool.{cond_both, cases_lt, eq-eqb, ne_eqb, lt-leb}
use Rattle.refusal.specs.declared.Refusal.TheVariants.{NoPower}
use Rattle.memory.specs.Meaning.{Choosing, Words, Power, endless, left, exhausted, spent, picked, store_answer, flush_answer}
use Rattle.writes.specs.Writes.{Store, Op, Run, fall, tick, run, LineWrite, line_ops, all_ops, cost, applied, finished, Spared, Lined, Proper}
use Rattle.writes.specs.Laws.{Enough}
use Rattle.writes.proofs.Mixes.{in_line, same_cond, picked_one, flush_settles, length_applied}

-- What no call changes of a memory.
pub record Make : Type 0 where
  pub through : Bool
  pub choosing : Choosing

abbrev pub made : Words → Make
made m = record { through = m.through; choosing = m.choosing }

abbrev pub mem : List ℕ → List ℕ → Make → Power → Words
mem a b t p = record { live = a; firm = b; through = t.through; power = p; choosing = t.choosing }

-- So many steps more.
abbrev pub plus : ℕ → Run → Run
plus zero r = r
plus (suc k) r = tick (plus k r)

pub plus_is : (k : ℕ) (r : Run) → plus k r ≡ record { after = r.after; steps = k + r.steps; ended = r.ended }
plus_is zero r = rw zero-add
plus_is (suc k) r = let e : suc k + r.steps ≡ suc (k + r.steps) = omega arith in let h = plus_is k r in cc

pub alive : (p : Power) (k : ℕ) → Enough p (suc k) → exhausted p ≡ false
alive endless k h = refl
alive (left n) k h = ne_eqb n 0 (omega arith)

pub fall_none : (p : Power) → fall p 0 ≡ p
fall_none endless = refl
fall_none (left n) = ap left (omega arith)

pub fall_fall : (p : Power) (j k : ℕ) → fall (fall p j) k ≡ fall p (j + k)
fall_fall endless j k = refl
fall_fall (left n) j k = ap left (omega arith)

-- A step, and then k more.
pub spent_fall : (p : Power) (k : ℕ) → fall (spent p) k ≡ fall p (suc k)
spent_fall endless k = refl
spent_fall (left n) k = ap left (omega arith)

pub spent_is : (p : Power) → spent p ≡ fall p 1
spent_is endless = refl
spent_is (left n) = refl

pub enough_spent : (p : Power) (k : ℕ) → Enough p (suc k) → Enough (spent p) k
enough_spent endless k h = tt
enough_spent (left n) k h = omega arith

pub enough_rest : (p : Power) (j k : ℕ) → Enough p (j + k) → Enough (fall p j) k
enough_rest endless j k h = tt
enough_rest (left n) j k h = omega arith

pub enough_first : (p : Power) (j k : ℕ) → Enough p (j + k) → Enough p j
enough_first endless j k h = tt
enough_first (left n) j k h = omega arith

module _ (a b : List ℕ) (t : Make) (p : Power) where
  store_granted : (i : ℕ) → i < length a → get_or a i 0 ≡ get_or b i 0 → exhausted p ≡ false → store_answer (mem a b t p) i ≡ Ok tt
  store_granted i h e d = let x = lt-leb (length a) i h in let y = eq-eqb _ _ e in cc

  store_refused : (i : ℕ) → i < length a → exhausted p ≡ true → store_answer (mem a b t p) i ≡ Err NoPower
  store_refused i h d = let x = lt-leb (length a) i h in cc

  flush_granted : (l : ℕ) → 8 * l < length a → exhausted p ≡ false → flush_answer (mem a b t p) l ≡ Ok tt
  flush_granted l h d = let x = lt-leb (length a) (8 * l) h in cc

  flush_refused : (l : ℕ) → 8 * l < length a → exhausted p ≡ true → flush_answer (mem a b t p) l ≡ Err NoPower
  flush_refused l h d = let x = lt-leb (length a) (8 * l) h in cc

-- Live and firm agree at the words to be stored.
abbrev Agree : List ℕ → List ℕ → List Store → Type 0
Agree a b [] = Unit {0}
Agree a b (s ∷ ss) = (get_or a s.at 0 ≡ get_or b s.at 0) × Agree a b ss

agree_self : (a : List ℕ) (ss : List Store) → Agree a a ss
agree_self a [] = tt
agree_self a (s ∷ ss) = (refl, agree_self a ss)

agree_store : (a b : List ℕ) (t : Bool) (i w : ℕ) (ss : List Store) → Spared i ss → Agree a b ss → Agree (set a i w) (cond t (set b i w) b) ss
agree_store a b t i w [] h g = tt
agree_store a b t i w (s ∷ ss) h g =
    let n = λ (e : s.at ≡ i). h.0 (sym e) in
    let kept : get_or (cond t (set b i w) b) s.at 0 ≡ get_or b s.at 0 =
    cond_both t (set b i w) b (λ x. get_or x s.at 0 ≡ get_or b s.at 0) (λ _. get_or-set_other b i s.at w 0 n) (λ _. refl) in
    (get_or-set_other a i s.at w 0 n ∙ (g.0 ∙ sym kept), agree_store a b t i w ss h.1 g.1)

-- The firm words after a store and more stores.
firm_more : (t : Bool) (b c : List ℕ) (ss : List Store) → cond t (applied (cond t c b) ss) (cond t c b) ≡ cond t (applied c ss) b
firm_more true b c ss = refl
firm_more false b c ss = refl

-- A line write with enough power.
line_whole : (size l : ℕ) (ss : List Store) (a b : List ℕ) (t : Make) (p : Power) (rest : List Op)
    → length a ≡ size → 8 * l < size → Lined size l ss → Agree a b ss → Enough p (suc (length ss))
    → run (mem a b t p) (line_ops l ss ++ rest)
    ≡ plus (suc (length ss)) (run (mem (applied a ss) (picked (in_line l) (applied a ss) (cond t.through (applied b ss) b)) t (fall p (suc (length ss)))) rest)
unfolding run
line_whole size l [] a b t p rest e i h g n =
    let x = flush_granted a b t p l (omega arith) (alive p 0 n) in
    let y : picked (in_line l) a (cond t.through b b) ≡ picked (in_line l) a b = ap (picked (in_line l) a) (same_cond t.through b) in
    let z = spent_is p in
    cc
line_whole size l (s ∷ ss) a b t p rest e i h g n =
    let k = suc (length ss) in
    let a' = set a s.at s.word in
    let b' = set b s.at s.word in
    let x = store_granted a b t p s.at (rw e h.0) g.0 (alive p k n) in
    let f = spent_fall p k in
    let d = ap (picked (in_line l) (applied a' ss)) (firm_more t.through b b' ss) in
    let y = line_whole size l ss a' (cond t.through b' b) t (spent p) rest
    (length-set a s.at s.word ∙ e) i h.3 (agree_store a b t.through s.at s.word ss h.2 g.1) (enough_spent p k n) in
    cc

-- A line write that the power does not reach the end of.
line_short : (size l : ℕ) (ss : List Store) (n : ℕ) (a b : List ℕ) (t : Make) (rest : List Op)
    → length a ≡ size → 8 * l < size → Lined size l ss → Agree a b ss → n ≤ length ss
    → run (mem a b t (left n)) (line_ops l ss ++ rest)
    ≡ record { after = mem (applied a (take n ss)) (cond t.through (applied b (take n ss)) b) t (left 0); steps = n; ended = Err NoPower }
unfolding run
line_short size l [] zero a b t rest e i h g n =
    let x = flush_refused a b t (left 0) l (omega arith) refl in let y = same_cond t.through b in cc
line_short size l [] (suc k) a b t rest e i h g n = absurd (omega arith)
line_short size l (s ∷ ss) zero a b t rest e i h g n =
    let x = store_refused a b t (left 0) s.at (rw e h.0) refl in let y = same_cond t.through b in cc
line_short size l (s ∷ ss) (suc k) a b t rest e i h g n =
    let a' = set a s.at s.word in
    let b' = set b s.at s.word in
    let x = store_granted a b t (left (suc k)) s.at (rw e h.0) g.0 (ne_eqb (suc k) 0 (omega arith)) in
    let f : suc k - 1 ≡ k = omega arith in
    let d = firm_more t.through b b' (take k ss) in
    let y = line_short size l ss k a' (cond t.through b' b) t rest
    (length-set a s.at s.word ∙ e) i h.3 (agree_store a b t.through s.at s.word ss h.2 g.1) (omega arith) in
    cc

-- One line write of a settled memory.
line_kept : (size l : ℕ) (ss : List Store) (w : List ℕ) (t : Bool) → Lined size l ss → picked (in_line l) (applied w ss) (cond t (applied w ss) w) ≡ applied w ss
line_kept size l ss w true h = picked_one (in_line l) (applied w ss)
line_kept size l ss w false h = flush_settles size l w ss h

line_done : (size l : ℕ) (ss : List Store) (w : List ℕ) (t : Make) (p : Power) (rest : List Op)
    → length w ≡ size → 8 * l < size → Lined size l ss → Enough p (suc (length ss))
    → run (mem w w t p) (line_ops l ss ++ rest) ≡ plus (suc (length ss)) (run (mem (applied w ss) (applied w ss) t (fall p (suc (length ss)))) rest)
line_done size l ss w t p rest e i h n =
    let x = line_kept size l ss w t.through h in let y = line_whole size l ss w w t p rest e i h (agree_self w ss) n in cc

pub whole : (size : ℕ) (ws : List LineWrite) (w : List ℕ) (t : Make) (p : Power) → length w ≡ size → Proper size ws → Enough p (cost ws)
    → run (mem w w t p) (all_ops ws) ≡ record { after = mem (finished w ws) (finished w ws) t (fall p (cost ws)); steps = cost ws; ended = Ok tt }
unfolding run
whole size [] w t p e h n = let x = fall_none p in cc
whole size (l ∷ ws) w t p e h n =
    let k = suc (length l.stores) in
    let x = line_done size l.line l.stores w t p (all_ops ws) e h.0 h.1 (enough_first p k (cost ws) n) in
    let y = whole size ws (applied w l.stores) t (fall p k) (length_applied w l.stores ∙ e) h.2 (enough_rest p k (cost ws) n) in
    let z = fall_fall p k (cost ws) in
    let u = plus_is k (run (mem (applied w l.stores) (applied w l.stores) t (fall p k)) (all_ops ws)) in
    cc

-- Where the power ran out.
pub record Stop (size : ℕ) (w : List ℕ) (t : Make) (ws : List LineWrite) (n : ℕ) : Type 0 where
  pub whole : ℕ
  pub within : whole < length ws
  pub part : LineWrite
  pub lined : Lined size part.line part.stores
  pub made : ℕ
  pub few : made ≤ length part.stores
  pub count : cost (take whole ws) + made ≡ n
  pub after_cost : cost (take (suc whole) ws) ≡ cost (take whole ws) + suc (length part.stores)
  pub after_words : finished w (take (suc whole) ws) ≡ applied (finished w (take whole ws)) part.stores
  pub is : run (mem w w t (left n)) (all_ops ws)
      ≡ record {
        after = mem (applied (finished w (take whole ws)) (take made part.stores)) (cond t.through (applied (finished w (take whole ws)) (take made part.stores)) (finished w (take whole ws))) t (left 0);
        steps = n;
        ended = Err NoPower;
      }

stop_more : (size : ℕ) (l : LineWrite) (ws : List LineWrite) (w : List ℕ) (t : Make) (n : ℕ) → length w ≡ size → Proper size (l ∷ ws)
    → suc (length l.stores) ≤ n → Stop size (applied w l.stores) t ws (n - suc (length l.stores)) → Stop size w t (l ∷ ws) n
stop_more size l ws w t n e h enough s =
    let k = suc (length l.stores) in
    let x = line_done size l.line l.stores w t (left n) (all_ops ws) e h.0 h.1 enough in
    let u = plus_is k (run (mem (applied w l.stores) (applied w l.stores) t (left (n - k))) (all_ops ws)) in
    let v : k + (n - k) ≡ n = omega arith in
    record {
      whole = suc s.whole;
      within = omega arith;
      part = s.part;
      lined = s.lined;
      made = s.made;
      few = s.few;
      count = omega arith;
      after_cost = omega arith;
      after_words = s.after_words;
      is = cc s.is;
    }

pub short : (size : ℕ) (ws : List LineWrite) (w : List ℕ) (t : Make) (n : ℕ) → length w ≡ size → Proper size ws → n < cost ws → Stop size w t ws n
short size [] w t n e h c = absurd (omega arith)
short size (l ∷ ws) w t n e h c =
    ⊎_elim
    (λ few. record {
      whole = 0;
      within = omega arith;
      part = l;
      lined = h.1;
      made = n;
      few = omega arith;
      count = omega arith;
      after_cost = omega arith;
      after_words = refl;
      is = line_short size l.line l.stores n w w t (all_ops ws) e h.0 h.1 (agree_self w l.stores) (omega arith);
    })
    (λ enough. stop_more size l ws w t n e h enough
    (short size ws (applied w l.stores) t (n - suc (length l.stores)) (length_applied w l.stores ∙ e) h.2 (omega arith)))
    (cases_lt n (suc (length l.stores)))

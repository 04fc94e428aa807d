-- Runs one after the other with the steps counted, and what is left of line writes after some of their steps.
use Rattle.std.proofs.Common.{◌≡◌, ℕ, suc, ◌+◌, ◌/◌, ◌<◌, ◌≤◌, min, List, [], ◌∷◌, ◌++◌, length, get_or, take, drop, is_ok, Ok, Err, sym, refl, ap, ◌∙◌, ⊎_elim, append_assoc, suc-add, zero-add, arith}
use Rattle.std.proofs.lemmas.List.{append-nil, drop_more, drop_all, drop_at, length-append, nil_from_length, take_all, take_at}
use Rattle.std.proofs.lemmas.Bool.{cases_lt, cond-false}
use Rattle.refusal.specs.declared.Refusal.{Refusal}
use Rattle.memory.specs.Meaning.{Words, store_answer, stored, after_store, flush_answer, flushed, after_flush}
use Rattle.memory.proofs.Facts.{after_granted_store, after_granted_flush}
use Rattle.writes.specs.Laws.{InTurn}
use Rattle.writes.specs.Writes.{Answer, Store, Op, Run, LineWrite, all_ops, onward, outcome, answer, did, next, tick, run, perform, line_ops, lines_for, row_stores, row, rows}

pub after_refused_store : (m : Words) (i w : ℕ) (x : Refusal) → Err x ≡ store_answer m i → after_store m i w ≡ m
after_refused_store m i w x e = cond-false (is_ok (store_answer m i)) (stored m i w) m (sym (ap is_ok e))

pub after_refused_flush : (m : Words) (l : ℕ) (x : Refusal) → Err x ≡ flush_answer m l → after_flush m l ≡ m
after_refused_flush m l x e = cond-false (is_ok (flush_answer m l)) (flushed m l) m (sym (ap is_ok e))

onward_tick : (n : ℕ) (r : Run) → onward n (tick r) ≡ onward (n + 1) r
onward_tick n r = let e : n + suc r.steps ≡ (n + 1) + r.steps = omega arith in cc

-- What is left of a line write comes to all of it, and so does what is left one store on.
module _ (m : Words) (n l : ℕ) (rest : List Store) (all : Run) (inv : onward n (run m (line_ops l rest)) ≡ all) where
  pub goes_on : (s : Store) (more : List Store) → rest ≡ s ∷ more
      → (i k : ℕ) (m' : Words) → i ≡ s.at → Ok tt ≡ store_answer m i → m' ≡ after_store m i s.word → k ≡ n + 1
      → onward k (run m' (line_ops l more)) ≡ all
  unfolding run
  goes_on s more e i k m' at a after one =
      let t = onward_tick n (run (stored m i s.word) (line_ops l more)) in
      let g = after_granted_store m i s.word a in
      cc

  pub stops : (s : Store) (more : List Store) → rest ≡ s ∷ more
      → (i : ℕ) (x : Refusal) (m' : Words) → i ≡ s.at → Err x ≡ store_answer m i → m' ≡ after_store m i s.word
      → outcome m' n (Err x) ≡ all
  unfolding run
  stops s more e i x m' at a after = let z : n + 0 ≡ n = omega arith in let g = after_refused_store m i s.word x a in cc

  pub ends : rest ≡ [] → (k : ℕ) (m' : Words) → Ok tt ≡ flush_answer m l → m' ≡ after_flush m l → k ≡ n + 1 → outcome m' k (Ok tt) ≡ all
  unfolding run
  ends e k m' a after one = let g = after_granted_flush m l a in cc

  pub ends_refused : rest ≡ [] → (x : Refusal) (m' : Words) → Err x ≡ flush_answer m l → m' ≡ after_flush m l → outcome m' n (Err x) ≡ all
  unfolding run
  ends_refused e x m' a after = let z : n + 0 ≡ n = omega arith in let g = after_refused_flush m l x a in cc

pub row_none : (first : ℕ) (ws : List ℕ) (i : ℕ) → length ws ≤ i → row_stores (first + i) (drop i ws) ≡ []
row_none first ws i h = rw (drop_all i ws h)

pub row_more : (first : ℕ) (ws : List ℕ) (i : ℕ) → i < length ws
    → row_stores (first + i) (drop i ws) ≡ record { at = first + i; word = get_or ws i 0 } ∷ row_stores (first + (i + 1)) (drop (i + 1) ws)
row_more first ws i h = let e : suc (first + i) ≡ first + (i + 1) = omega arith in let d = drop_more ws i 0 h in cc

-- Runs one after the other: made in turn if the first was granted whole, else as if only the first were asked for.
pub run_both : (m : Words) (a b : List Op)
    → ((run m a).ended ≡ Ok tt → run m (a ++ b) ≡ onward (run m a).steps (run (run m a).after b))
    × ((x : Refusal) → (run m a).ended ≡ Err x → run m (a ++ b) ≡ run m a)
unfolding run
run_both m [] b = (λ _. rw zero-add, λ x e. let z : ◌≡◌ {A = ℕ} 0 1 = cc in absurd (omega arith))
run_both m (o ∷ os) b = at (answer m o) (run_both (did m o) os b)
  where
    at : (a : Answer)
        → ((run (did m o) os).ended ≡ Ok tt → run (did m o) (os ++ b) ≡ onward (run (did m o) os).steps (run (run (did m o) os).after b))
        × ((x : Refusal) → (run (did m o) os).ended ≡ Err x → run (did m o) (os ++ b) ≡ run (did m o) os)
        → ((next m a (run (did m o) os)).ended ≡ Ok tt → next m a (run (did m o) (os ++ b)) ≡ onward (next m a (run (did m o) os)).steps (run (next m a (run (did m o) os)).after b))
        × ((x : Refusal) → (next m a (run (did m o) os)).ended ≡ Err x → next m a (run (did m o) (os ++ b)) ≡ next m a (run (did m o) os))
    at (Ok tt) h = (λ e. ap tick (h.0 e) ∙ rw suc-add, λ x e. ap tick (h.1 x e))
    at (Err y) h = (λ e. let z : ◌≡◌ {A = ℕ} 0 1 = cc in absurd (omega arith), λ x e. refl)

pub all_ops_append : (a b : List LineWrite) → all_ops (a ++ b) ≡ all_ops a ++ all_ops b
all_ops_append [] b = refl
all_ops_append (w ∷ a) b = ap (λ (x : List Op). line_ops w.line w.stores ++ x) (all_ops_append a b) ∙ sym (append_assoc (line_ops w.line w.stores) (all_ops a) (all_ops b))

pub in_turn_holds : InTurn
unfolding perform
in_turn_holds m a b = rw (all_ops_append a b) (run_both m (all_ops a) (all_ops b))

pub perform_none : (m : Words) → perform m [] ≡ outcome m 0 (Ok tt)
unfolding run perform
perform_none m = refl

pub perform_one : (m : Words) (w : LineWrite) → perform m (w ∷ []) ≡ run m (line_ops w.line w.stores)
unfolding perform
perform_one m w = ap (run m) (append-nil (line_ops w.line w.stores))

pub row_start : (m : Words) (n first : ℕ) (ws : List ℕ) → onward n (run m (line_ops (first / 8) (row_stores (first + 0) ws))) ≡ onward n (perform m (row first ws ∷ []))
row_start m n first ws = let z : first + 0 ≡ first = omega arith in rw z (ap (onward n) (sym (perform_one m (row first ws))))

-- Code that makes line writes in turn and counts the steps, from j to k: it stops at the first refusal, and goes on after whole ones.
module _ (m n : Words) (j k : ℕ) (a b : List LineWrite) where
  pub counted_stop : (x : Refusal) → outcome n k (Err x) ≡ onward j (perform m a) → outcome n k (Err x) ≡ onward j (perform m (a ++ b))
  counted_stop x first = first ∙ ap (onward j) (sym ((in_turn_holds m a b).1 x (sym (ap (λ (y : Run). y.ended) first))))

  pub counted_done : (last : Run) → outcome n k (Ok tt) ≡ onward j (perform m a) → last ≡ onward k (perform n b) → last ≡ onward j (perform m (a ++ b))
  counted_done last first e =
      let h = (in_turn_holds m a b).0 (sym (ap (λ (y : Run). y.ended) first)) in
      let s : k + (perform n b).steps ≡ j + ((perform m a).steps + (perform n b).steps) = omega (arith, ap (λ (y : Run). y.steps) first) in
      let t : n ≡ (perform m a).after = ap (λ (y : Run). y.after) first in
      cc

-- What is left of line writes comes to all of them, and so does what is left one line write on.
module _ (m : Words) (j : ℕ) (ws : List LineWrite) (all : Run) (inv : onward j (perform m ws) ≡ all) where
  pub lines_go_on : (w : LineWrite) (more : List LineWrite) (n : Words) (k : ℕ) → ws ≡ w ∷ more
      → outcome n k (Ok tt) ≡ onward j (perform m (w ∷ [])) → onward k (perform n more) ≡ all
  lines_go_on w more n k e first = counted_done m n j k (w ∷ []) more (onward k (perform n more)) first refl ∙ rw e at inv

  pub lines_stop : (w : LineWrite) (more : List LineWrite) (n : Words) (k : ℕ) (x : Refusal) → ws ≡ w ∷ more
      → outcome n k (Err x) ≡ onward j (perform m (w ∷ [])) → outcome n k (Err x) ≡ all
  lines_stop w more n k x e first = counted_stop m n j k (w ∷ []) more x first ∙ rw e at inv

  pub lines_end : ws ≡ [] → outcome m j (Ok tt) ≡ all
  unfolding run perform
  lines_end e = let z : j + 0 ≡ j = omega arith in cc

-- What is left of consecutive words after their first eight, or fewer at the end, and what is left of their line writes.
module _ (ws line rest : List ℕ) (parts : ws ≡ line ++ rest) (long : length line ≡ min 8 (length ws)) (some : 0 < length ws) where
  sum : length ws ≡ length line + length rest
  sum = ap length parts ∙ length-append line rest

  one_more : lines_for (length ws) ≡ suc (lines_for (length rest))
  one_more = let s = sum in omega arith

  front : take 8 ws ≡ line
  front =
      ⊎_elim
      (λ few. let none : rest ≡ [] = nil_from_length rest (let s = sum in omega arith) in rw (parts, none, append-nil) (take_all 8 line (omega arith)))
      (λ many. rw parts (take_at line rest 8 (omega arith)))
      (cases_lt (length ws) 8)

  back : drop 8 ws ≡ rest
  back =
      ⊎_elim
      (λ few. let none : rest ≡ [] = nil_from_length rest (let s = sum in omega arith) in rw (parts, none, append-nil) (drop_all 8 line (omega arith)))
      (λ many. rw parts (drop_at line rest 8 (omega arith)))
      (cases_lt (length ws) 8)

-- No word, no line write.
pub rows_over : (at : ℕ) (ws : List ℕ) → length ws ≡ 0 → rows (lines_for (length ws)) at ws ≡ []
rows_over at ws none = let z : lines_for (length ws) ≡ 0 = omega arith in rw z refl

-- The next line write.
pub rows_turn : (at next : ℕ) (ws line rest : List ℕ) → ws ≡ line ++ rest → length line ≡ min 8 (length ws) → 0 < length ws → (0 < length rest → next ≡ at + 8)
    → rows (lines_for (length ws)) at ws ≡ row at line ∷ rows (lines_for (length rest)) next rest
rows_turn at next ws line rest parts long some on =
    let one = one_more ws line rest parts long some in
    let f = front ws line rest parts long some in
    let b = back ws line rest parts long some in
    let after : rows (lines_for (length rest)) (at + 8) rest ≡ rows (lines_for (length rest)) next rest =
    ⊎_elim (λ none. rw (rows_over (at + 8) rest (omega arith), rows_over next rest (omega arith)) refl) (λ more. rw (on (omega arith))) (cases_lt (length rest) 1) in
    rw (one, f, b, after) refl

-- How calls end in any memory.
use Rattle.std.proofs.Common.{◌≡◌, ℕ, suc, ◌+◌, ◌*◌, ◌<◌, ◌≤◌, Bool, true, false, cond, leb, eqb, get_or, List, [], ◌∷◌, ◌++◌, length, Ok, Err, Option, Result, None, Some, sym, refl, ap, ◌∙◌, subst, inl, inr, ⊎_elim, zero-add, arith}
use Rattle.std.proofs.lemmas.Bool.{leb-true}
use Rattle.std.proofs.lemmas.Bool.Decides.{nat_tests}
use Rattle.fixed_vec.specs.declared.FixedVec.{FixedVec}
use Rattle.fixed_vec.specs.Items.{items}
use Rattle.refusal.specs.declared.Refusal.{Refusal}
use Rattle.refusal.specs.declared.Refusal.TheVariants.{NoPower, Outside, Unsettled, BadLeaf, Present, Absent, NoRoom}
use Rattle.memory.specs.Meaning.{Power, Words, endless, exhausted, flush_answer, left, read_answer, size_of, spent, store_answer}
use Rattle.leaves.specs.declared.leaf.Element.{Element}
use Rattle.leaves.specs.declared.leaf.Pair.{Pair}
use Rattle.leaves.specs.Asking.{count_answer, counted, elements_told, granted}
use Rattle.leaves.specs.Layout.{Within, count_of, elements}
use Rattle.leaves.proofs.BookLaws.{err_ok}
use Rattle.writes.specs.Writes.{Answer, LineWrite, Op, Proper, Run, Store, all_ops, did, fall, flush, next, onward, outcome, perform, run, single, store}
use Rattle.writes.specs.Laws.{Enough}
use Rattle.writes.proofs.Places.{proper_append, single_proper}
use Rattle.writes.proofs.Runs.{fall_none}
use Rattle.appends.specs.Append.{append_lines, raised}
use Rattle.appends.specs.Calls.{change_elements}
use Rattle.appends.proofs.AppendWords.{slots_proper}
use Rattle.rewrites.specs.Rewrite.{Filling, leaf_lines}
use Rattle.rewrites.proofs.NewWords.{leaf_lines_proper}
use Rattle.plans.specs.declared.deed.Deed.{Deed}
use Rattle.plans.specs.declared.deed.Deed.TheVariants.{Put, Change, Remove}
use Rattle.std.specs.Option.{ok_or, unwrap_or}
use Rattle.plans.specs.Free.{free_leaf}
use Rattle.plans.specs.Plan.{taken, declined, elements as elements_wished, granted as granted_wished, wish}
use Rattle.index.specs.declared.node.Entry.{Entry}
use Rattle.index.specs.declared.table.Index.{Index}
use Rattle.index.specs.Meaning.{grouped}
use Rattle.tree.specs.declared.logbook.carry.Halt.{Halt}
use Rattle.tree.specs.declared.logbook.State.{State}
use Rattle.tree.specs.declared.logbook.State.TheVariants.{Blank, Open, Dark}
use Rattle.tree.specs.Anywhere.{Answered, Declined, Granted, OwnRefusal, Spent, Stopped}
use Rattle.tree.specs.Calls.{FromMemory}
use Rattle.tree.specs.Halting.{ended, halted, state_after, steps_of}
use Rattle.tree.specs.Shape.{dark, groups, shape_of}
use Rattle.tree.specs.Telling.{indexed}
use Rattle.tree.specs.Turning.{Ending, count_next, ending, has_leaf, leaf_in, some_of, wrote}
use Rattle.tree.proofs.CarryLaws.{wrote_is}
use Rattle.tree.proofs.KeptLaws.{performed_power, performed_refusal}
use Rattle.tree.proofs.EndingLaws.{wrote_ends}
use Rattle.tree.proofs.TurnLaws.{counted_within}

-- Refusals that no memory gives.
pub outside_own : FromMemory Outside → ⊥
outside_own h = ⊎_elim (λ e. let z : ◌≡◌ {A = ℕ} 0 1 = cc in omega arith) (λ e. let z : ◌≡◌ {A = ℕ} 0 1 = cc in omega arith) h

bad_own : FromMemory BadLeaf → ⊥
bad_own h = ⊎_elim (λ e. let z : ◌≡◌ {A = ℕ} 0 1 = cc in omega arith) (λ e. let z : ◌≡◌ {A = ℕ} 0 1 = cc in omega arith) h

present_own : FromMemory Present → ⊥
present_own h = ⊎_elim (λ e. let z : ◌≡◌ {A = ℕ} 0 1 = cc in omega arith) (λ e. let z : ◌≡◌ {A = ℕ} 0 1 = cc in omega arith) h

absent_own : FromMemory Absent → ⊥
absent_own h = ⊎_elim (λ e. let z : ◌≡◌ {A = ℕ} 0 1 = cc in omega arith) (λ e. let z : ◌≡◌ {A = ℕ} 0 1 = cc in omega arith) h

pub room_own : FromMemory NoRoom → ⊥
room_own h = ⊎_elim (λ e. let z : ◌≡◌ {A = ℕ} 0 1 = cc in omega arith) (λ e. let z : ◌≡◌ {A = ℕ} 0 1 = cc in omega arith) h

same_err : {X : Type 0} (a b : Refusal) → ◌≡◌ {A = Result X Refusal} (Err a) (Err b) → a ≡ b
same_err a b e = cc

-- What a leaf refuses to be asked, and what it answers.
choice_own : (a b : Bool) (n : ℕ) (e : Refusal) → ◌≡◌ {A = Result ℕ Refusal} (cond a (Err Outside) (cond b (Err BadLeaf) (Ok n))) (Err e) → FromMemory e → ⊥
choice_own true b n e is = subst (λ r. FromMemory r → ⊥) (same_err Outside e is) outside_own
choice_own false true n e is = subst (λ r. FromMemory r → ⊥) (same_err BadLeaf e is) bad_own
choice_own false false n e is = err_ok is refl

pub count_own : (m : List ℕ) (k : ℕ) (e : Refusal) → count_answer m k ≡ Err e → FromMemory e → ⊥
count_own m k e is = choice_own _ _ (count_of m k) e is

pub granted_own : {X : Type 0} (m : List ℕ) (k : ℕ) (say : ℕ → X) (e : Refusal) → ◌≡◌ {A = Result X Refusal} (Err e) (counted m k say) → FromMemory e → ⊥
granted_own m k say e is = by (count_answer m k) refl is where
  by : (r : Result ℕ Refusal) → count_answer m k ≡ r → ◌≡◌ {A = Result _ Refusal} (Err e) (granted r say) → FromMemory e → ⊥
  by (Ok n) r_is h = err_ok (sym h) refl
  by (Err f) r_is h = subst (λ y. FromMemory y → ⊥) (same_err f e (sym h)) (count_own m k f r_is)

pub granted_within : {X : Type 0} (m : List ℕ) (k : ℕ) (say : ℕ → X) (v : X) → ◌≡◌ {A = Result X Refusal} (Ok v) (counted m k say) → Within m k
granted_within m k say v is = by (count_answer m k) refl is where
  by : (r : Result ℕ Refusal) → count_answer m k ≡ r → ◌≡◌ {A = Result _ Refusal} (Ok v) (granted r say) → Within m k
  by (Ok n) r_is h = counted_within m k n r_is
  by (Err f) r_is h = err_ok refl (sym h)

count_is : (m : List ℕ) (k n : ℕ) → count_answer m k ≡ Ok n → n ≡ count_of m k
count_is m k n e = grind (arith, nat_tests)

same_items : (v : FixedVec Element 16) (es : List Element) → elements_told (Ok v) ≡ Ok es → items v ≡ es
same_items v es e = cc

-- What is read of a leaf is what it counts.
pub elements_read : (m : List ℕ) (k : ℕ) (v : FixedVec Element 16) → elements_told (Ok v) ≡ counted m k (elements m k) → items v ≡ elements m k (count_of m k)
elements_read m k v is = by (count_answer m k) refl is where
  by : (r : Result ℕ Refusal) → count_answer m k ≡ r → elements_told (Ok v) ≡ granted r (elements m k) → items v ≡ elements m k (count_of m k)
  by (Ok n) r_is h = same_items v (elements m k n) h ∙ ap (elements m k) (count_is m k n r_is)
  by (Err f) r_is h = err_ok refl (sym h)

pub read_own : (m : List ℕ) (k : ℕ) (e : Refusal) → elements_told (Err e) ≡ counted m k (elements m k) → FromMemory e → ⊥
read_own m k e is = granted_own m k (elements m k) e is

-- What the next leaf refuses to be asked.
pub next_own : (m : List ℕ) (next : Option ℕ) (e : Refusal) → ◌≡◌ {A = Result (Option ℕ) Refusal} (Err e) (count_next m next) → FromMemory e → ⊥
next_own m None e is = err_ok (sym is) refl
next_own m (Some k) e is = by (count_answer m k) refl is where
  by : (r : Result ℕ Refusal) → count_answer m k ≡ r → ◌≡◌ {A = Result (Option ℕ) Refusal} (Err e) (some_of r) → FromMemory e → ⊥
  by (Ok n) r_is h = err_ok (sym h) refl
  by (Err f) r_is h = subst (λ y. FromMemory y → ⊥) (same_err f e (sym h)) (count_own m k f r_is)

-- What a call declines by what is held of its key.
same_declined : (a b : Refusal) → declined a ≡ declined b → a ≡ b
same_declined a b e = cc

not_elements : (e : Refusal) (xs : List (ℕ × ℕ)) → declined e ≡ elements_wished xs → ⊥
not_elements e xs h = let z : ◌≡◌ {A = ℕ} 0 1 = cc in omega arith

pub wish_own : (d : Deed) (held : Option ℕ) (e : Refusal) → declined e ≡ wish d held → FromMemory e → ⊥
wish_own (Put w r) None e is = absurd (not_elements e _ is)
wish_own (Put w r) (Some old) e is = subst (λ y. FromMemory y → ⊥) (same_declined Present e (sym is)) present_own
wish_own (Change w r) None e is = subst (λ y. FromMemory y → ⊥) (same_declined Absent e (sym is)) absent_own
wish_own (Change w r) (Some old) e is = by (eqb old r) is where
  by : (b : Bool) → declined e ≡ cond b granted_wished (elements_wished (change_elements old r)) → FromMemory e → ⊥
  by true h = let z : ◌≡◌ {A = ℕ} 0 1 = cc in absurd (omega arith)
  by false h = absurd (not_elements e _ h)
wish_own (Remove w) None e is = subst (λ y. FromMemory y → ⊥) (same_declined Absent e (sym is)) absent_own
wish_own (Remove w) (Some old) e is = absurd (not_elements e _ is)

-- The steps that were granted were there.
enough_none : (p : Power) → Enough p 0
enough_none endless = tt
enough_none (left n) = omega arith

enough_more : (p : Power) (k : ℕ) → exhausted p ≡ false → Enough (spent p) k → Enough p (suc k)
enough_more endless k some h = tt
enough_more (left n) k some h = grind (arith, nat_tests)

answer_powered : (out dry same : Bool) → ◌≡◌ {A = Answer} (cond out (Err Outside) (cond dry (Err NoPower) (cond same (Ok tt) (Err Unsettled)))) (Ok tt) → dry ≡ false
answer_powered true dry same e = err_ok refl e
answer_powered false true same e = err_ok refl e
answer_powered false false same e = refl

enough_next : (m : Words) (a : Answer) (r : Run) → (a ≡ Ok tt → exhausted m.power ≡ false) → Enough (spent m.power) r.steps → Enough m.power (next m a r).steps
enough_next m (Ok tt) r some h = enough_more m.power r.steps (some refl) h
enough_next m (Err e) r some h = enough_none m.power

run_enough : (m : Words) (ops : List Op) → Enough m.power (run m ops).steps
unfolding run
run_enough m [] = enough_none m.power
run_enough m (store s ∷ ops) = enough_next m (store_answer m s.at) (run (did m (store s)) ops) (λ e. answer_powered _ _ _ e) (run_enough (did m (store s)) ops)
run_enough m (flush l ∷ ops) = enough_next m (flush_answer m l) (run (did m (flush l)) ops) (λ e. answer_powered _ _ true e) (run_enough (did m (flush l)) ops)

performed_enough : (m : Words) (ws : List LineWrite) → Enough m.power (perform m ws).steps
unfolding perform
performed_enough m ws = run_enough m (all_ops ws)

performed_none : (m : Words) → outcome m 0 (Ok tt) ≡ perform m []
unfolding perform run
performed_none m = refl

spent_by : (m after : Words) (steps : ℕ) (a : Answer) (lines : List LineWrite) → outcome after steps a ≡ perform m lines → Spent m steps after
spent_by m after steps a lines is = record {
  had = subst (λ (r : Run). Enough m.power r.steps) (sym is) (performed_enough m lines);
  power = ap (λ (r : Run). r.after.power) is ∙ (performed_power m lines ∙ ap (λ (r : Run). fall m.power r.steps) (sym is));
}

spent_none : (m : Words) → Spent m 0 m
spent_none m = record { had = enough_none m.power; power = sym (fall_none m.power) }

same_halt : (a b : Halt) → ◌≡◌ {A = Result ℕ Halt} (Err a) (Err b) → a ≡ b
same_halt a b e = cc

same_steps : (a b : ℕ) → ◌≡◌ {A = Result ℕ Halt} (Ok a) (Ok b) → a ≡ b
same_steps a b e = cc

-- A call that refuses of itself, and one that has nothing to do.
pub declines : (m : Words) (s : State) (last : Option ℕ) (e : Refusal) → OwnRefusal s e → Answered m s last (ending (Err (halted e 0)) m (shape_of s) last)
declines m s last e own =
    let end = ending (Err (halted e 0)) m (shape_of s) last in
    record {
      spent = spent_none m;
      few = omega arith;
      granted = λ n q. err_ok refl q;
      refused = λ h q. inr (subst (λ h. Declined m s last h end) (same_halt (halted e 0) h q) (record { own = own; steps = refl; memory = refl; shape = refl; taken = refl }));
    }

pub stays : (m : Words) (x : Index) (last : Option ℕ) → Answered m (Open x) last (ending (Ok 0) m (shape_of (Open x)) last)
stays m x last =
    let end = ending (Ok 0) m (shape_of (Open x)) last in
    record {
      spent = spent_none m;
      few = omega arith;
      granted = λ n q. subst (λ n. Granted m (Open x) n end) (same_steps 0 n q) (record { was = tt; stays = (grouped x, refl); ran = record { lines = []; proper = tt; run = performed_none m } });
      refused = λ h q. err_ok q refl;
    }

pub not_opened : (s : State) (e : Refusal) → indexed s ≡ Err e → OwnRefusal s e
not_opened Blank e h = cc
not_opened (Open x) e h = err_ok h refl
not_opened Dark e h = cc

-- A call that wrote.
module _ (m : Words) (x : Index) (last : Option ℕ) (after : Words) (steps : ℕ) (a : Answer) (lines : List LineWrite) (proper : Proper (size_of m) lines) (run : outcome after steps a ≡ perform m lines) (few : steps ≤ 87) where
  pub wrote_answered : (gs : List (List Entry)) (new : Option ℕ) → Answered m (Open x) last (wrote after steps a (groups gs) last new)
  wrote_answered gs new =
      let spent = spent_by m after steps a lines run in
      wrote_ends (Answered m (Open x) last) after steps a (groups gs) last new
      (λ ok. record {
        spent = spent;
        few = few;
        granted = λ n q. subst (λ n. Granted m (Open x) n (ending (Ok steps) after (groups gs) new)) (same_steps steps n q)
            (record { was = tt; stays = (gs, refl); ran = record { lines = lines; proper = proper; run = ap (outcome after steps) (sym ok) ∙ run } });
        refused = λ h q. err_ok q refl;
      })
      (λ e err. record {
        spent = spent;
        few = few;
        granted = λ n q. err_ok refl q;
        refused = λ h q. inl (subst (λ h. Stopped m (Open x) last h (ending (Err (halted e steps)) after dark last)) (same_halt (halted e steps) h q)
            (record {
              was = tt;
              refusal = performed_refusal m lines e proper (ap (λ (r : Run). r.ended) (sym run) ∙ err);
              shape = refl;
              taken = refl;
              ran = record { lines = lines; proper = proper; run = ap (outcome after steps) (sym err) ∙ run };
            }));
      })

-- An append to a leaf within the memory.
append_proper : (size k n : ℕ) (w : ℕ × ℕ) (xs : List (ℕ × ℕ)) → 1 ≤ k → 8 + 72 * k ≤ size → n + length xs ≤ 16 → Proper size (append_lines k n w xs)
append_proper size k n w xs some long room = slots_proper k w size n xs (raised k n xs) (omega (arith, some, long, room)) (single_proper size (raised k n xs) (omega (arith, some, long)))

pub append_answered : (m : Words) (x : Index) (last : Option ℕ) (k n : ℕ) (w : ℕ × ℕ) (xs : List (ℕ × ℕ)) (r : Result ℕ Halt) (after : Words) (st : State)
    → Within m.live k → n + length xs ≤ 16 → steps_of r ≤ 5 * length xs + 2 → outcome after (steps_of r) (ended r) ≡ perform m (append_lines k n w xs) → st ≡ state_after (Open x) (ended r)
    → Answered m (Open x) last (ending r after (shape_of st) last)
append_answered m x last k n w xs r after st within room few run st_is =
    let lines = append_lines k n w xs in
    let made = perform m lines in
    let told : made.steps ≡ steps_of r = ap (λ (r : Run). r.steps) (sym run) in
    subst (Answered m (Open x) last) (sym (wrote_is x last r after made st run st_is))
    (wrote_answered m x last made.after made.steps made.ended lines (append_proper (size_of m) k n w xs within.0 within.2 room) refl (omega (arith, told, few, room)) (grouped x) last)

-- A rewrite into leaves that the memory has.
pub has_parts : (size k : ℕ) → has_leaf size k ≡ true → (1 ≤ k) × (k ≤ 64) × (8 + 72 * k ≤ size)
has_parts size k t = (grind (arith, nat_tests), grind (arith, nat_tests), grind (arith, nat_tests))

pub leaf_in_ok : (size n k r : ℕ) → Ok r ≡ leaf_in size k → size ≡ n → (r ≡ k) × (has_leaf n r ≡ true)
leaf_in_ok size n k r is same = let both = by (has_leaf size k) refl is in (both.0, ap (λ j. has_leaf j r) (sym same) ∙ both.1) where
  by : (b : Bool) → has_leaf size k ≡ b → ◌≡◌ {A = Result ℕ Refusal} (Ok r) (cond b (Ok k) (Err Outside)) → (r ≡ k) × (has_leaf size r ≡ true)
  by true t h = let e : r ≡ k = cc in (e, ap (has_leaf size) e ∙ t)
  by false t h = err_ok refl (sym h)

pub leaf_in_err : (size n k j : ℕ) (e : Refusal) → Err e ≡ leaf_in size k → size ≡ n → k ≡ j → (e ≡ Outside) × (has_leaf n j ≡ false)
leaf_in_err size n k j e is same leaf = let both = by (has_leaf size k) refl is in (both.0, ap (λ i. has_leaf i j) (sym same) ∙ (ap (has_leaf size) (sym leaf) ∙ both.1)) where
  by : (b : Bool) → has_leaf size k ≡ b → ◌≡◌ {A = Result ℕ Refusal} (Err e) (cond b (Ok k) (Err Outside)) → (e ≡ Outside) × (has_leaf size k ≡ false)
  by true t h = err_ok (sym h) refl
  by false t h = (same_err e Outside h, t)

onward_none : (r : Run) → onward 0 r ≡ r
onward_none r = ap (λ k. outcome r.after k r.ended) (zero-add r.steps)

leaf_proper : (size next : ℕ) (f : Filling) → length f.content ≤ 16 → has_leaf size f.leaf ≡ true → Proper size (leaf_lines next f)
leaf_proper size next f few has = let p = has_parts size f.leaf has in leaf_lines_proper next f few size (omega (arith, p.0, p.2))

pub one_answered : (m : Words) (x : Index) (last : Option ℕ) (at leaf next : ℕ) (ps : List Pair) (after : Words) (steps : ℕ) (a : Answer) (gs : List (List Entry)) (e : Ending)
    → has_leaf (size_of m) leaf ≡ true → at < size_of m → length ps ≤ 16 → steps ≤ 87
    → outcome after steps a ≡ onward 0 (perform m (leaf_lines next (record { leaf = leaf; content = ps }) ++ (single (record { at = at; word = leaf }) ∷ [])))
    → e ≡ wrote after steps a (groups gs) last (Some leaf) → Answered m (Open x) last e
one_answered m x last at leaf next ps after steps a gs e has link room few run end =
    let size = size_of m in
    let new : Filling = record { leaf = leaf; content = ps } in
    let commit : Store = record { at = at; word = leaf } in
    let proper = proper_append size (leaf_lines next new) (single commit ∷ []) (leaf_proper size next new room has) (single_proper size commit link) in
    subst (Answered m (Open x) last) (sym end) (wrote_answered m x last after steps a (leaf_lines next new ++ (single commit ∷ [])) proper (run ∙ onward_none _) few gs (Some leaf))

pub two_answered : (m : Words) (x : Index) (last : Option ℕ) (at one two next : ℕ) (ps qs : List Pair) (after : Words) (steps : ℕ) (a : Answer) (gs : List (List Entry)) (e : Ending)
    → has_leaf (size_of m) one ≡ true → has_leaf (size_of m) two ≡ true → at < size_of m → length ps ≤ 16 → length qs ≤ 16 → steps ≤ 87
    → outcome after steps a ≡ onward 0 (perform m (leaf_lines two (record { leaf = one; content = ps }) ++ (leaf_lines next (record { leaf = two; content = qs }) ++ (single (record { at = at; word = one }) ∷ []))))
    → e ≡ wrote after steps a (groups gs) last (Some two) → Answered m (Open x) last e
two_answered m x last at one two next ps qs after steps a gs e has has-2 link room room-2 few run end =
    let size = size_of m in
    let f : Filling = record { leaf = one; content = ps } in
    let h : Filling = record { leaf = two; content = qs } in
    let commit : Store = record { at = at; word = one } in
    let rest = leaf_lines next h ++ (single commit ∷ []) in
    let proper =
    proper_append size (leaf_lines two f) rest (leaf_proper size two f room has)
    (proper_append size (leaf_lines next h) (single commit ∷ []) (leaf_proper size next h room-2 has-2) (single_proper size commit link)) in
    subst (Answered m (Open x) last) (sym end) (wrote_answered m x last after steps a (leaf_lines two f ++ rest) proper (run ∙ onward_none _) few gs (Some two))

-- A new leaf: how many leaves are told, and which one is taken.
pub told_err : (m : Words) (e : Refusal) → Err e ≡ read_answer m 3 → (e ≡ Outside) × (4 ≤ size_of m → ⊥)
told_err m e is = by (leb (size_of m) 3) refl is where
  by : (b : Bool) → leb (size_of m) 3 ≡ b → ◌≡◌ {A = Result ℕ Refusal} (Err e) (cond b (Err Outside) (Ok (get_or m.live 3 0))) → (e ≡ Outside) × (4 ≤ size_of m → ⊥)
  by true t h = (same_err e Outside h, λ long. let few = leb-true (size_of m) 3 t in omega arith)
  by false t h = err_ok (sym h) refl

pub told_ok : (m : Words) (n : ℕ) → Ok n ≡ read_answer m 3 → n ≡ get_or m.live 3 0
told_ok m n is = by (leb (size_of m) 3) is where
  by : (b : Bool) → ◌≡◌ {A = Result ℕ Refusal} (Ok n) (cond b (Err Outside) (Ok (get_or m.live 3 0))) → n ≡ get_or m.live 3 0
  by true h = err_ok refl (sym h)
  by false h = cc

pub taken_is : (n all : ℕ) (used row : List ℕ) (last tk : Option ℕ) (free : Option ℕ) (k : ℕ) → free ≡ free_leaf n used last → k ≡ unwrap_or free 0 → n ≡ all → used ≡ row → last ≡ tk → k ≡ taken all row tk
taken_is n all used row last tk free k free_is k_is n_is used_is last_is =
    k_is ∙ ap (λ f. unwrap_or f 0) (free_is ∙ (ap (λ j. free_leaf j used last) n_is ∙ (ap (λ us. free_leaf all us last) used_is ∙ ap (free_leaf all row) last_is)))

-- There is no next leaf.
pub no_next : (next : Option ℕ) (e f : Refusal) → ok_or next f ≡ Err e → e ≡ f
no_next None e f h = cc
no_next (Some k) e f h = err_ok h refl

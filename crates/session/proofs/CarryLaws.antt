-- A call of a logbook, a question and a cut come to what a history tells.
use Rattle.std.proofs.Common.{◌≡◌, ℕ, ◌<◌, Bool, true, false, if◌then◌else◌, nat_lt, cond, List, [], length, drop, ltb, is_ok, Ok, Err, MatchResult, Option, Result, None, Some, sym, refl, ap, ◌∙◌, subst, ⊎_elim, arith}
use Rattle.std.proofs.lemmas.List.{length-map}
use Rattle.std.proofs.lemmas.Bool.{cases_Bool, cond-true, cond-false}
use Rattle.refusal.specs.declared.Refusal.{Refusal}
use Rattle.refusal.specs.declared.Refusal.TheVariants.{Outside, WrongLength}
use Rattle.keys.specs.Kind.{Kind}
use Rattle.keys.specs.InWords.{WordKind, WordOrdered, in_words}
use Rattle.memory.specs.Meaning.{Freely, Words, after_settle, chosen, odd_at, renewed, settle_answer}
use Rattle.leaves.specs.declared.leaf.Pair.{Pair}
use Rattle.leaves.specs.declared.open.Fault.{Fault}
use Rattle.leaves.specs.Opening.{open_answer}
use Rattle.leaves.specs.Pairs.{first_after, lookup}
use Rattle.writes.specs.Writes.{Answer, Run, perform}
use Rattle.writes.specs.Laws.{change}
use Rattle.books.specs.Bounds.{bounds_of}
use Rattle.books.specs.Footprint.{book}
use Rattle.plans.specs.declared.deed.Deed.{Deed}
use Rattle.plans.specs.Deeds.{key_of}
use Rattle.plans.specs.Plan.{Plan, Tree, refuse, nothing, writes, plan}
use Rattle.plans.specs.Told.{by_rule}
use Rattle.histories.specs.PlainBook.{find, next as next_after, pair_or, pairs as how_many, reading_or}
use Rattle.histories.specs.Outcome.{State, Logbook, blank, in_use, dark, by_opening, by_plan as plan_outcome, outcome, outcome_in, reply, reply_in, wrote as wrote_outcome}
use Rattle.histories.specs.Histories.{Event, cut as cut_event}
use Rattle.index.specs.declared.node.Entry.{Entry}
use Rattle.index.specs.declared.record.NodeRecord.{NodeRecord}
use Rattle.index.specs.declared.table.Index.{Index}
use Rattle.index.specs.Showing.{Telling, node_told, told as shown}
use Rattle.index.specs.Meaning.{grouped, listed}
use Rattle.index.specs.Nodes.{bounds, numbers}
use Rattle.index.specs.Search.{concat, front}
use Rattle.index.specs.Shape.{singles}
use Rattle.tree.specs.declared.logbook.carry.Halt.{Halt}
use Rattle.tree.specs.declared.logbook.turn.Removed.{Removed}
use Rattle.tree.specs.declared.logbook.State.{State as Book}
use Rattle.tree.specs.declared.logbook.State.TheVariants.{Blank, Open, Dark}
use Rattle.tree.specs.Shape as shape
use Rattle.tree.specs.Shape.{Shape, found_shape, open_told, paired, shape_of, tops}
use Rattle.tree.specs.Sound.{Sound}
use Rattle.tree.specs.Telling.{asked as asked_of, find_answer, found, next_answer, node_after, paired_or, pairs_answer}
use Rattle.tree.specs.Cutting.{cut_answer, cut_shape, cut_taken}
use Rattle.tree.specs.Turning.{Ending, RemovalEnds, by_plan, call_ending, ending, number_for, removal, tree_of, wrote, regrouped}
use Rattle.tree.proofs.OpenLaws.{bounds_paired, concat_singles, front_tops, length_tops, numbers_paired}
use Rattle.tree.proofs.CarryLaws.{same_tree}
use Rattle.tree.proofs.KeptLaws.{number_there}
use Rattle.tree.proofs.RegroupLaws.{Regroups, plan_regroups}
use Rattle.session.specs.Hearing.{NodeHeard, heard_cut, heard_found, heard_next, heard_number, heard_opened, heard_removed, heard_steps}
use Rattle.session.specs.Playing.{Happened, NodeShown, NodeTold, onward, opened_told, removed_told, replied, steps_told}
use Rattle.session.specs.Grouping.{Indexed, groups_at, groups_called, groups_opened}
use Rattle.session.specs.declared.act.Act.TheVariants.{Cut}
use Rattle.session.specs.declared.act.Told.{Told}
use Rattle.session.specs.declared.act.Told.TheVariants as told
use Rattle.session.specs.Sessions.{Like, Rightly, Same}

-- Which state has a shape.
opened_by : (b : Book) (gs : List (List Entry)) → shape_of b ≡ shape.groups gs → (y : Index) × (b ≡ Open y) × (grouped y ≡ gs)
opened_by Blank gs e = let z : ◌≡◌ {A = ℕ} 0 1 = cc in absurd (omega arith)
opened_by (Open y) gs e = (y, refl, cc)
opened_by Dark gs e = let z : ◌≡◌ {A = ℕ} 0 1 = cc in absurd (omega arith)

darkened_by : (b : Book) → shape_of b ≡ shape.dark → b ≡ Dark
darkened_by Blank e = let z : ◌≡◌ {A = ℕ} 0 1 = cc in absurd (omega arith)
darkened_by (Open y) e = let z : ◌≡◌ {A = ℕ} 0 1 = cc in absurd (omega arith)
darkened_by Dark e = refl

blanked_by : (b : Book) → shape_of b ≡ shape.blank → b ≡ Blank
blanked_by Blank e = refl
blanked_by (Open y) e = let z : ◌≡◌ {A = ℕ} 0 1 = cc in absurd (omega arith)
blanked_by Dark e = let z : ◌≡◌ {A = ℕ} 0 1 = cc in absurd (omega arith)

abbrev tree : List ℕ → List (ℕ × ℕ) → Option ℕ → Tree
tree ks bs l = record { leaves = ks; bounds = bs; last = l }

-- A state whose groups list a tree is like it.
pub like_tree : (b : Book) (gs : List (List Entry)) (tk : Option ℕ) (t : Tree) → shape_of b ≡ shape.groups gs → numbers (concat gs) ≡ t.leaves → front (bounds (concat gs)) ≡ t.bounds → tk ≡ t.last → Like b tk (in_use t) gs
like_tree b gs tk t e leaves between last =
    let (y, is, same) = opened_by b gs e in
    let all : tree_of y tk ≡ t =
    ap (λ (hs : List (List Entry)). tree (numbers (concat hs)) (front (bounds (concat hs))) tk) same
    ∙ (ap (λ ls. tree ls (front (bounds (concat gs))) tk) leaves ∙ (ap (λ bs. tree t.leaves bs tk) between ∙ ap (tree t.leaves t.bounds) last)) in
    subst (λ s. Like s tk (in_use t) gs) (sym is) (all, same)

same_answer : (a b : Result ℕ Halt) (m n : Words) (p q : Shape) (s t : Option ℕ) → ending a m p s ≡ ending b n q t → (a ≡ b) × (m ≡ n) × (p ≡ q) × (s ≡ t)
same_answer a b m n p q s t e = (ap (λ x. x.answer) e, ap (λ x. x.memory) e, ap (λ x. x.shape) e, ap (λ x. x.taken) e)

-- What a call comes to, in the logbook and in a history.
pub record CallTold (m : Words) (had : Option ℕ) (r : Result ℕ Halt) (after : Words) (b : Book) (tk : Option ℕ) (result : Result (Option ℕ) Refusal) (steps : ℕ) (s : State) (gs : List (List Entry)) : Type 0 where
  pub same : Same after b tk (record { state = s; groups = gs })
  pub steps_heard : steps_told result steps ≡ heard_steps r
  pub removed_heard : removed_told result steps ≡ heard_removed (removal had r)

module _ (o : WordKind) (m : Words) (x : Index) (tk : Option ℕ) (had : Option ℕ) (r : Result ℕ Halt) (m' : Words) (b : Book) (tk' : Option ℕ) where
  -- A tree that stays is not regrouped.
  kept_like : (n : ℕ) → shape_of b ≡ shape.groups (grouped x) → tk' ≡ tk → Like b tk' (in_use (tree_of x tk)) (regrouped (grouped x) n (tree_of x tk))
  kept_like n s t = subst (Like b tk' (in_use (tree_of x tk))) (sym (same_tree x n tk)) (like_tree b (grouped x) tk' (tree_of x tk) s refl refl t)

  by_plan_told : (n : ℕ) (p : Plan) → Regroups (grouped x) n p → ending r m' (shape_of b) tk' ≡ by_plan n m x tk p
      → CallTold m had r m' b tk' (plan_outcome m (tree_of x tk) had p).answer.result (plan_outcome m (tree_of x tk) had p).answer.steps (plan_outcome m (tree_of x tk) had p).state
      (groups_at (grouped x) n (plan_outcome m (tree_of x tk) had p).state.logbook)
  by_plan_told n (refuse e) lists is =
      let (a, w, s, t) = same_answer _ _ _ _ _ _ _ _ is in
      record {
        same = record { memory = sym w; logbook = kept_like n s t };
        steps_heard = rw a refl;
        removed_heard = rw a refl;
      }
  by_plan_told n nothing lists is =
      let (a, w, s, t) = same_answer _ _ _ _ _ _ _ _ is in
      record {
        same = record { memory = sym w; logbook = kept_like n s t };
        steps_heard = rw a refl;
        removed_heard = rw a refl;
      }
  by_plan_told n (writes before commit t) lists is = by (perform m (change before commit)) refl where
    by : (run : Run) → perform m (change before commit) ≡ run → CallTold m had r m' b tk' (wrote_outcome run.ended run t had).answer.result (wrote_outcome run.ended run t had).answer.steps (wrote_outcome run.ended run t had).state (groups_at (grouped x) n (wrote_outcome run.ended run t had).state.logbook)
    by run e = ended run.ended run e refl where
      ended : (w : Answer) (run : Run) → perform m (change before commit) ≡ run → run.ended ≡ w → CallTold m had r m' b tk' (wrote_outcome w run t had).answer.result (wrote_outcome w run t had).answer.steps (wrote_outcome w run t had).state (groups_at (grouped x) n (wrote_outcome w run t had).state.logbook)
      ended (Ok _) run e w =
          let is' = is ∙ ap (λ (y : Run). wrote y.after y.steps y.ended (shape.groups (regrouped (grouped x) n t)) tk t.last) e ∙ ap (λ a. wrote run.after run.steps a (shape.groups (regrouped (grouped x) n t)) tk t.last) w in
          let (a, wd, s, l) = same_answer _ _ _ _ _ _ _ _ is' in
          record {
            same = record { memory = sym wd; logbook = like_tree b (regrouped (grouped x) n t) tk' t s lists.leaves lists.between l };
            steps_heard = rw a refl;
            removed_heard = rw a refl;
          }
      ended (Err y) run e w =
          let is' = is ∙ ap (λ (y : Run). wrote y.after y.steps y.ended (shape.groups (regrouped (grouped x) n t)) tk t.last) e ∙ ap (λ a. wrote run.after run.steps a (shape.groups (regrouped (grouped x) n t)) tk t.last) w in
          let (a, wd, s, l) = same_answer _ _ _ _ _ _ _ _ is' in
          record {
            same = record { memory = sym wd; logbook = subst (λ z. Like z tk' dark (grouped x)) (sym (darkened_by b s)) tt };
            steps_heard = rw a refl;
            removed_heard = rw a refl;
          }

-- A put, change or remove.
abbrev Outcomes : WordKind → Words → Deed → Result ℕ Halt → Words → Book → Option ℕ → Words → Logbook → List (List Entry) → Type 0
Outcomes o m d r m' b tk' w l gs =
    CallTold m (lookup (key_of d) (book o m.live)) r m' b tk' (outcome_in by_rule o w l d).answer.result (outcome_in by_rule o w l d).answer.steps (outcome_in by_rule o w l d).state
    (groups_called o gs l d (outcome_in by_rule o w l d).state.logbook)

deed_in : (o : WordKind) → WordOrdered o → (m : Words) (bk : Book) (tk : Option ℕ) (l : Logbook) (gs : List (List Entry)) (d : Deed) (r : Result ℕ Halt) (m' : Words) (b : Book) (tk' : Option ℕ) → Like bk tk l gs → Sound o m.live bk
    → ending r m' (shape_of b) tk' ≡ call_ending o m bk tk d → Outcomes o m d r m' b tk' m l gs
deed_in o ordered m Blank tk blank gs d r m' b tk' like sound is =
    let (a, w, s, t) = same_answer _ _ _ _ _ _ _ _ is in
    record { same = record { memory = sym w; logbook = subst (λ z. Like z tk' blank gs) (sym (blanked_by b s)) tt }; steps_heard = rw a refl; removed_heard = rw a refl }
deed_in o ordered m Dark tk dark gs d r m' b tk' like sound is =
    let (a, w, s, t) = same_answer _ _ _ _ _ _ _ _ is in
    record { same = record { memory = sym w; logbook = subst (λ z. Like z tk' dark gs) (sym (darkened_by b s)) tt }; steps_heard = rw a refl; removed_heard = rw a refl }
deed_in o ordered m (Open x) tk (in_use t) gs d r m' b tk' like sound is =
    let n = number_for o x (key_of d) in
    let here : n < length (concat (grouped x)) =
    (let a = number_there o ordered m.live (numbers (listed x)) (front (bounds (listed x))) (key_of d) sound.bounded in
    let c : length (numbers (listed x)) ≡ length (concat (grouped x)) = length-map (concat (grouped x)) _ in
    omega (arith, a, c)) in
    let lists = plan_regroups o m.live (grouped x) n here tk by_rule d in
    subst (λ q. Outcomes o m d r m' b tk' m (in_use q) gs) like.0
    (subst (Outcomes o m d r m' b tk' m (in_use (tree_of x tk))) like.1 (by_plan_told o m x tk (lookup (key_of d) (book o m.live)) r m' b tk' n (plan o m.live (tree_of x tk) d) lists is))
deed_in o ordered m Blank tk (in_use t) gs d r m' b tk' like sound is = absurd like
deed_in o ordered m Blank tk dark gs d r m' b tk' like sound is = absurd like
deed_in o ordered m Dark tk (in_use t) gs d r m' b tk' like sound is = absurd like
deed_in o ordered m Dark tk blank gs d r m' b tk' like sound is = absurd like
deed_in o ordered m (Open x) tk blank gs d r m' b tk' like sound is = absurd like
deed_in o ordered m (Open x) tk dark gs d r m' b tk' like sound is = absurd like

pub deed_told : (o : WordKind) → WordOrdered o → (m : Words) (bk : Book) (tk : Option ℕ) (s : Indexed) (d : Deed) (r : Result ℕ Halt) (m' : Words) (b : Book) (tk' : Option ℕ) → Same m bk tk s → Sound o m.live bk
    → ending r m' (shape_of b) tk' ≡ call_ending o m bk tk d → CallTold m (lookup (key_of d) (book o m.live)) r m' b tk' (outcome by_rule o s.state d).answer.result (outcome by_rule o s.state d).answer.steps (outcome by_rule o s.state d).state
    (groups_called o s.groups s.state.logbook d (outcome by_rule o s.state d).state.logbook)
deed_told o ordered m bk tk s d r m' b tk' same sound is =
    subst (λ w. Outcomes o m d r m' b tk' w s.state.logbook s.groups) (sym same.memory) (deed_in o ordered m bk tk s.state.logbook s.groups d r m' b tk' same.logbook sound is)

-- Questions.
found_told : (h : Option ℕ) → replied (reading_or h) ≡ heard_found (found h)
found_told None = refl
found_told (Some r) = refl

pair_told : (h : Option Pair) → replied (pair_or h) ≡ heard_next (paired_or h)
pair_told None = refl
pair_told (Some p) = refl

asked_in : (o : WordKind) (m : Words) (bk : Book) (tk : Option ℕ) (l : Logbook) (gs : List (List Entry)) (w : ℕ × ℕ) → Like bk tk l gs
    → (replied (reply_in o m l (find w)) ≡ heard_found (find_answer o m.live bk w))
    × (replied (reply_in o m l (next_after w)) ≡ heard_next (next_answer o m.live bk w))
    × (replied (reply_in o m l how_many) ≡ heard_number (pairs_answer o m.live bk))
asked_in o m Blank tk blank gs w like = (refl, refl, refl)
asked_in o m Dark tk dark gs w like = (refl, refl, refl)
asked_in o m (Open x) tk (in_use t) gs w like = (found_told (lookup w (book o m.live)), pair_told (first_after o w (book o m.live)), refl)
asked_in o m Blank tk (in_use t) gs w like = absurd like
asked_in o m Blank tk dark gs w like = absurd like
asked_in o m Dark tk (in_use t) gs w like = absurd like
asked_in o m Dark tk blank gs w like = absurd like
asked_in o m (Open x) tk blank gs w like = absurd like
asked_in o m (Open x) tk dark gs w like = absurd like

-- What a sound logbook tells of a key and of its pairs is what the history replies.
module _ (o : WordKind) (m : Words) (bk : Book) (tk : Option ℕ) (s : Indexed) (same : Same m bk tk s) where
  pub find_told : (w : ℕ × ℕ) → heard_found (find_answer o m.live bk w) ≡ replied (reply o s.state (find w))
  find_told w = sym (ap (λ v. replied (reply_in o v s.state.logbook (find w))) same.memory ∙ (asked_in o m bk tk s.state.logbook s.groups w same.logbook).0)

  pub next_told : (w : ℕ × ℕ) → heard_next (next_answer o m.live bk w) ≡ replied (reply o s.state (next_after w))
  next_told w = sym (ap (λ v. replied (reply_in o v s.state.logbook (next_after w))) same.memory ∙ (asked_in o m bk tk s.state.logbook s.groups w same.logbook).1)

  pub pairs_told : heard_number (pairs_answer o m.live bk) ≡ replied (reply o s.state how_many)
  pairs_told = sym (ap (λ v. replied (reply_in o v s.state.logbook how_many)) same.memory ∙ (asked_in o m bk tk s.state.logbook s.groups (0, 0) same.logbook).2)

-- A node that is asked for.
abbrev granted : Result (Unit {0}) Refusal
granted = Ok tt

abbrev not_for : Refusal → Result (Unit {0}) Refusal
not_for e = Err e

shown_ok : (above : Bool) (gs : List (List Entry)) (i : ℕ) (r : NodeRecord) (before : Telling) → (if above then Err Outside else Ok tt) ≡ granted → shown r ≡ cond above before (node_told gs i) → NodeShown above gs i (told.Node r)
shown_ok true gs i r before is filled = let z : ◌≡◌ {A = ℕ} 0 1 = cc in absurd (omega arith)
shown_ok false gs i r before is filled = (r, refl, filled)

shown_err : (above : Bool) (gs : List (List Entry)) (i : ℕ) (e : Refusal) → (if above then Err Outside else Ok tt) ≡ not_for e → NodeShown above gs i (told.Refused e)
shown_err true gs i e is = cc
shown_err false gs i e is = let z : ◌≡◌ {A = ℕ} 0 1 = cc in absurd (omega arith)

pub node_ok : (bk : Book) (i : ℕ) (r : NodeRecord) (before : Telling) → asked_of bk (if nat_lt 90 i then Err Outside else Ok tt) ≡ granted → shown r ≡ node_after bk i before → NodeHeard bk i (told.Node r)
node_ok Blank i r before is filled = let z : ◌≡◌ {A = ℕ} 0 1 = cc in absurd (omega arith)
node_ok (Open x) i r before is filled = shown_ok (nat_lt 90 i) (grouped x) i r before is filled
node_ok Dark i r before is filled = let z : ◌≡◌ {A = ℕ} 0 1 = cc in absurd (omega arith)

pub node_err : (bk : Book) (i : ℕ) (e : Refusal) → asked_of bk (if nat_lt 90 i then Err Outside else Ok tt) ≡ not_for e → NodeHeard bk i (told.Refused e)
node_err Blank i e is = cc
node_err (Open x) i e is = shown_err (nat_lt 90 i) (grouped x) i e is
node_err Dark i e is = cc

pub node_told_in : (bk : Book) (tk : Option ℕ) (l : Logbook) (gs : List (List Entry)) (i : ℕ) (t : Told) → Like bk tk l gs → NodeHeard bk i t → NodeTold l gs i t
node_told_in Blank tk blank gs i t like heard = heard
node_told_in Dark tk dark gs i t like heard = heard
node_told_in (Open x) tk (in_use q) gs i t like heard = (
  ap (λ hs. numbers (concat hs)) (sym like.1) ∙ ap (λ (z : Tree). z.leaves) like.0,
  ap (λ hs. front (bounds (concat hs))) (sym like.1) ∙ ap (λ (z : Tree). z.bounds) like.0,
  subst (λ hs. NodeShown (nat_lt 90 i) hs i t) like.1 heard,
)
node_told_in Blank tk (in_use q) gs i t like heard = absurd like
node_told_in Blank tk dark gs i t like heard = absurd like
node_told_in Dark tk (in_use q) gs i t like heard = absurd like
node_told_in Dark tk blank gs i t like heard = absurd like
node_told_in (Open x) tk blank gs i t like heard = absurd like
node_told_in (Open x) tk dark gs i t like heard = absurd like

-- A cut.
opened_like : (o : WordKind) (words : List ℕ) (r : Result (List ℕ) Fault) (b : Book) → shape_of b ≡ found_shape o words r → Like b None (by_opening o words r) (groups_opened o words (by_opening o words r))
opened_like o words (Ok ks) b e =
    let es = paired ks (tops o words ks) in
    like_tree b (singles es) None (tree ks (bounds_of o words ks) None) e
    (ap numbers (concat_singles es) ∙ numbers_paired ks (tops o words ks) (length_tops o words ks))
    (ap (λ ds. front (bounds ds)) (concat_singles es) ∙ (ap front (bounds_paired ks (tops o words ks) (length_tops o words ks)) ∙ front_tops o words ks)) refl
opened_like o words (Err f) b e = subst (λ z. Like z None blank []) (sym (blanked_by b e)) tt

opening_heard : (r : Result (List ℕ) Fault) → heard_opened (open_told Blank r) ≡ opened_told r
opening_heard (Ok ks) = refl
opening_heard (Err f) = refl

-- A state of the same shape is like the same.
like_shape : (bk : Book) (tk : Option ℕ) (l : Logbook) (gs : List (List Entry)) (b : Book) (tk' : Option ℕ) → Like bk tk l gs → shape_of b ≡ shape_of bk → tk' ≡ tk → Like b tk' l gs
like_shape Blank tk blank gs b tk' like e t = subst (λ z. Like z tk' blank gs) (sym (blanked_by b e)) tt
like_shape Dark tk dark gs b tk' like e t = subst (λ z. Like z tk' dark gs) (sym (darkened_by b e)) tt
like_shape (Open x) tk (in_use q) gs b tk' like e t = subst (Like b tk' (in_use q)) like.1 (like_tree b (grouped x) tk' q e (ap (λ (z : Tree). z.leaves) like.0) (ap (λ (z : Tree). z.bounds) like.0) (t ∙ ap (λ (z : Tree). z.last) like.0))
like_shape Blank tk (in_use q) gs b tk' like e t = absurd like
like_shape Blank tk dark gs b tk' like e t = absurd like
like_shape Dark tk (in_use q) gs b tk' like e t = absurd like
like_shape Dark tk blank gs b tk' like e t = absurd like
like_shape (Open x) tk blank gs b tk' like e t = absurd like
like_shape (Open x) tk dark gs b tk' like e t = absurd like

-- What came of a cut.
pub record CutTold {K : Type 0} (k : Kind K) (choices : List ℕ) (s : Indexed) (from steps : ℕ) (t : Told) (m' : Words) (b : Book) (tk' : Option ℕ) : Type 0 where
  pub event : Option Event
  pub rightly : Rightly k s event
  pub happened : Happened k choices s (Cut from steps) event t
  pub same : Same m' b tk' (onward k s event)

module _ {K : Type 0} (k : Kind K) (choices : List ℕ) (from steps : ℕ) (s : Indexed) (bk : Book) (tk : Option ℕ) (like : Like bk tk s.state.logbook s.groups)
    (r : Result (Result (Unit {0}) Fault) Refusal) (m' : Words) (b : Book) (tk' : Option ℕ) where
  abbrev choice : List ℕ
  choice = drop from choices

  abbrev later : Words
  later = after_settle s.state.memory choice steps

  abbrev now : Words
  now = chosen s.state.memory choice steps

  cut_in : r ≡ cut_answer (in_words k) (settle_answer s.state.memory choice) later.live → m' ≡ later
      → shape_of b ≡ cut_shape (in_words k) (settle_answer s.state.memory choice) later.live (shape_of bk) → tk' ≡ cut_taken (settle_answer s.state.memory choice) tk
      → Freely s.state.memory → CutTold k choices s from steps (heard_cut r) m' b tk'
  cut_in answer memory state last free =
      ⊎_elim
      (λ short.
      let e : settle_answer s.state.memory choice ≡ Err WrongLength = cond-true (ltb (length choice) s.state.memory.choosing.many) (Err WrongLength) (Ok tt) short in
      let stays : later ≡ s.state.memory = ap (λ (a : Answer). cond (is_ok a) now s.state.memory) e in
      let r_is : r ≡ Err WrongLength = answer ∙ ap (λ a. cut_answer (in_words k) a later.live) e in
      record {
        event = None;
        rightly = tt;
        happened = (e, ap heard_cut r_is);
        same = record {
          memory = sym (memory ∙ stays);
          logbook = like_shape bk tk s.state.logbook s.groups b tk' like (state ∙ ap (λ a. cut_shape (in_words k) a later.live (shape_of bk)) e) (last ∙ ap (λ a. cut_taken a tk) e);
        };
      })
      (λ long.
      let e : settle_answer s.state.memory choice ≡ Ok tt = cond-false (ltb (length choice) s.state.memory.choosing.many) (Err WrongLength) (Ok tt) long in
      let done : later ≡ now = ap (λ (a : Answer). cond (is_ok a) now s.state.memory) e in
      let r_is : r ≡ Ok (open_told Blank (open_answer (in_words k) now.live)) = answer ∙ (ap (λ a. cut_answer (in_words k) a later.live) e ∙ ap (λ (w : Words). cut_answer (in_words k) (Ok tt) w.live) done) in
      let shaped : shape_of b ≡ found_shape (in_words k) now.live (open_answer (in_words k) now.live) = state ∙ (ap (λ a. cut_shape (in_words k) a later.live (shape_of bk)) e ∙ ap (λ (w : Words). cut_shape (in_words k) (Ok tt) w.live (shape_of bk)) done) in
      record {
        event = Some (cut_event now.live (renewed s.state.memory.power steps));
        rightly = (λ i. odd_at choice (s.state.memory.choosing.place i), refl);
        happened = (e, refl, refl, ap heard_cut r_is ∙ opening_heard (open_answer (in_words k) now.live), free);
        same = record {
          memory = sym (memory ∙ done);
          logbook = subst (λ l. Like b l (by_opening (in_words k) now.live (open_answer (in_words k) now.live)) (groups_opened (in_words k) now.live (by_opening (in_words k) now.live (open_answer (in_words k) now.live)))) (sym (last ∙ ap (λ a. cut_taken a tk) e)) (opened_like (in_words k) now.live (open_answer (in_words k) now.live) b shaped);
        };
      })
      (cases_Bool (ltb (length choice) s.state.memory.choosing.many))

pub cut_told : {K : Type 0} (k : Kind K) (choices : List ℕ) (from steps : ℕ) (s : Indexed) (m : Words) (bk : Book) (tk : Option ℕ) → Same m bk tk s
    → (r : Result (Result (Unit {0}) Fault) Refusal) (m' : Words) (b : Book) (tk' : Option ℕ)
    → r ≡ cut_answer (in_words k) (settle_answer m (drop from choices)) (after_settle m (drop from choices) steps).live → m' ≡ after_settle m (drop from choices) steps
    → shape_of b ≡ cut_shape (in_words k) (settle_answer m (drop from choices)) (after_settle m (drop from choices) steps).live (shape_of bk)
    → tk' ≡ cut_taken (settle_answer m (drop from choices)) tk → Freely m → CutTold k choices s from steps (heard_cut r) m' b tk'
cut_told k choices from steps s m bk tk same r m' b tk' answer memory state last free =
    let e = sym same.memory in
    cut_in k choices from steps s bk tk same.logbook r m' b tk'
    (subst (λ w. r ≡ cut_answer (in_words k) (settle_answer w (drop from choices)) (after_settle w (drop from choices) steps).live) e answer)
    (subst (λ w. m' ≡ after_settle w (drop from choices) steps) e memory)
    (subst (λ w. shape_of b ≡ cut_shape (in_words k) (settle_answer w (drop from choices)) (after_settle w (drop from choices) steps).live (shape_of bk)) e state)
    (subst (λ w. tk' ≡ cut_taken (settle_answer w (drop from choices)) tk) e last)
    (subst Freely e free)

-- What holds where a cut happened, and was kept where it did not.
pub either_way : {A P Q : Type 0} (r : Result A Refusal) → MatchResult r (λ _. P) (λ _. Q → P) → Q → P
either_way (Ok x) holds was = holds
either_way (Err e) holds was = holds was

-- A remove ends as a call does.
pub ends_so : (m : Words) (p : Shape) (tk : Option ℕ) (a : Result Removed Halt) (had : Option ℕ) (e : Ending) → RemovalEnds m p tk a had e → ending e.answer m p tk ≡ e
ends_so m p tk a had e r = ap (λ w. ending e.answer w p tk) r.memory ∙ (ap (λ q. ending e.answer e.memory q tk) r.state ∙ ap (ending e.answer e.memory e.shape) r.last)

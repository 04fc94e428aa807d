-- How calls end, and what they leave.
use Rattle.std.proofs.Common.{◌≡◌, ℕ, ◌<◌, ◌≤◌, true, ◌⊎◌, List, length, Ok, Err, Option, Result, sym, refl, ap, ◌∙◌, subst, inl, inr, ⊎_elim, arith}
use Rattle.std.proofs.lemmas.Bool.{false≢true}
use Rattle.std.proofs.lemmas.List.{length-map}
use Rattle.std.proofs.lemmas.Option.{none-some}
use Rattle.refusal.specs.declared.Refusal.{Refusal}
use Rattle.refusal.specs.declared.Refusal.TheVariants.{NoPower, NoRoom, Blank as NotOpened}
use Rattle.refusal.specs.Numbers.{number_of}
use Rattle.keys.specs.InWords.{WordKind, WordOrdered}
use Rattle.memory.specs.Meaning.{Power, Words, endless, left}
use Rattle.writes.specs.Writes.{Answer, LineWrite, Store, cost, fall, perform}
use Rattle.writes.specs.Laws.{Enough, change}
use Rattle.writes.proofs.Runs.{fall_none}
use Rattle.leaves.specs.Ascent.{Ascending, all_pairs}
use Rattle.leaves.specs.Layout.{word}
use Rattle.leaves.specs.Pairs.{lookup}
use Rattle.leaves.proofs.BookLaws.{book_ascends, err_ok}
use Rattle.books.specs.Footprint.{book}
use Rattle.books.proofs.OpensLaws.{opens_from}
use Rattle.books.proofs.QuestionLaws.{linked_is}
use Rattle.turns.proofs.TurnLaws.{granted_steps_hold, turns_hold}
use Rattle.plans.specs.declared.deed.Deed.{Deed}
use Rattle.plans.specs.declared.deed.Deed.TheVariants.{Remove}
use Rattle.plans.specs.Deeds.{BringsHeld, Declines, Goes, done, key_of}
use Rattle.plans.specs.Laws.{Fulfils, Holds, Sound as SoundTree}
use Rattle.plans.specs.Plan.{Plan, Tree, nothing, plan, refuse, writes}
use Rattle.plans.specs.Room.{ExactlyWhen, LacksRoom, steps_enough}
use Rattle.plans.specs.Told.{by_rule}
use Rattle.plans.proofs.CallLaws.{nothing_changes_hold}
use Rattle.plans.proofs.DecisionLaws.{decision_lawful, rule_splits_holds}
use Rattle.plans.proofs.DeedLaws.{declined_no_room, goes_not_declined, goes_not_held, room_no_power}
use Rattle.plans.proofs.PlanLaws.{plans_hold}
use Rattle.plans.proofs.RoomLaws.{enough_few}
use Rattle.index.specs.declared.node.Entry.{Entry}
use Rattle.index.specs.declared.table.Index.{Index}
use Rattle.index.specs.Meaning.{grouped, listed}
use Rattle.index.specs.Nodes.{bounds, numbers}
use Rattle.index.specs.Search.{concat, front}
use Rattle.tree.specs.declared.logbook.carry.Halt.{Halt}
use Rattle.tree.specs.declared.logbook.State.{State}
use Rattle.tree.specs.declared.logbook.State.TheVariants.{Blank, Open, Dark}
use Rattle.tree.specs.Calls.{CallDone, DoneAfter, FewSteps, FromMemory, GrantedOrMemory, OfCalls, OneFree, Refused, Refuses, RemoveGoes, RoomTold, Settles, SoundAfter, StaysSettled, StaysSound, StepsTold, Why}
use Rattle.tree.specs.Halting.{halted}
use Rattle.tree.specs.Shape.{Shape, dark, groups, shape_of}
use Rattle.tree.specs.Sound.{Fits, Sound}
use Rattle.tree.specs.Turning.{Ending, by_plan, call_ending, ending, number_for, regrouped, tree_of, wrote}
use Rattle.tree.proofs.KeptLaws.{bounded_ascends, enough_none, number_there, performed_enough, performed_few, performed_live, performed_power, performed_refusal, same_refusal}
use Rattle.tree.proofs.OpenLaws.{same_groups}
use Rattle.tree.proofs.RegroupLaws.{Lists, Regroups, plan_regroups}

-- A call that has written by its plan.
record Written (o : WordKind) (m : Words) (x : Index) (last : Option ℕ) (d : Deed) (before : List LineWrite) (commit : Store) (after : Tree) : Type 0 where
  goes : Goes d (lookup (key_of d) (book o m.live))
  roomy : LacksRoom by_rule o m.live (tree_of x last) d → ⊥
  fulfils : Fulfils o m.live (tree_of x last) d before commit after
  lists : Lists (regrouped (grouped x) (number_for o x (key_of d)) after) after

-- A writing call is granted whole or broken off.
pub wrote_ends : (P : Ending → Type 0) (after : Words) (steps : ℕ) (a : Answer) (shape : Shape) (old new : Option ℕ)
    → (a ≡ Ok tt → P (ending (Ok steps) after shape new)) → ((e : Refusal) → a ≡ Err e → P (ending (Err (halted e steps)) after dark old))
    → P (wrote after steps a shape old new)
wrote_ends P after steps (Ok tt) shape old new granted broken = granted refl
wrote_ends P after steps (Err e) shape old new granted broken = broken e refl

-- The ways in which a call of an open logbook can end.
module _ (o : WordKind) (ordered : WordOrdered o) (m : Words) (x : Index) (last : Option ℕ) (d : Deed) (fits : Fits o m.live (listed x)) (valid : o.valid (key_of d) ≡ true) where
  abbrev n : ℕ
  n = number_for o x (key_of d)

  abbrev t : Tree
  t = tree_of x last

  here : n < length (listed x)
  here = let count = length-map (listed x) (λ (e : Entry). e.to) in omega (arith, number_there o ordered m.live (numbers (listed x)) (front (bounds (listed x))) (key_of d) fits.bounded)

  module _ (P : Ending → Type 0)
      (refused : (e : Refusal) → Why o m.live (Open x) last d e → P (ending (Err (halted e 0)) m (groups (grouped x)) last))
      (kept : BringsHeld d (lookup (key_of d) (book o m.live)) → P (ending (Ok 0) m (groups (grouped x)) last))
      (granted : (before : List LineWrite) (commit : Store) (after : Tree) → Written o m x last d before commit after → (perform m (change before commit)).ended ≡ Ok tt → P (ending (Ok (perform m (change before commit)).steps) (perform m (change before commit)).after (groups (regrouped (grouped x) n after)) after.last))
      (broken : (before : List LineWrite) (commit : Store) (after : Tree) → Written o m x last d before commit after → (e : Refusal) → (perform m (change before commit)).ended ≡ Err e → P (ending (Err (halted e (perform m (change before commit)).steps)) (perform m (change before commit)).after dark last)) where
    plan_ends : (p : Plan) → Holds by_rule o m.live t d p → Regroups (grouped x) n p → P (by_plan n m x last p)
    plan_ends (refuse e) h r = refused e (⊎_elim (λ own. inl own) (λ full. inr (full.0, full.1, full.2)) h)
    plan_ends nothing h r = kept h
    plan_ends (writes before commit after) h r =
        let w : Written o m x last d before commit after = record { goes = h.0; roomy = h.1; fulfils = h.2; lists = r } in
        let run = perform m (change before commit) in
        wrote_ends P run.after run.steps run.ended (groups (regrouped (grouped x) n after)) last after.last (granted before commit after w) (broken before commit after w)

    call_ends : P (call_ending o m (Open x) last d)
    call_ends =
        plan_ends (plan o m.live t d)
        (plans_hold by_rule decision_lawful o ordered m.live t d (record { opens = fits.opens; bounded = fits.bounded }) valid)
        (plan_regroups o m.live (grouped x) n here last by_rule d)

-- Words that open to the leaves of groups, parted by their bounds.
fits_after : (o : WordKind) → WordOrdered o → (words : List ℕ) (es : List Entry) (t : Tree) → SoundTree o words t → numbers es ≡ t.leaves → front (bounds es) ≡ t.bounds → Fits o words es
fits_after o ordered words es t sound leaves between =
    let opens = opens_from o words t.leaves sound.opens in
    record {
      opens = sound.opens ∙ ap Ok (sym leaves);
      bounded = rw (leaves, between) sound.bounded;
      ascending = rw between (bounded_ascends o ordered words t.leaves t.bounds opens.fine sound.bounded);
    }

sound_groups : (o : WordKind) (words : List ℕ) (gs : List (List Entry)) → Fits o words (concat gs) → (r : State) → shape_of r ≡ groups gs → Sound o words r
sound_groups o words gs fits Blank e = tt
sound_groups o words gs fits (Open y) e = subst (Fits o words) (sym (ap concat (same_groups _ _ e))) fits
sound_groups o words gs fits Dark e = tt

not_dark : {A : Type 0} (gs : List (List Entry)) → groups gs ≡ dark → A
not_dark gs e = let z : ◌≡◌ {A = ℕ} 0 1 = cc in absurd (omega arith)

sound_dark : (o : WordKind) (words : List ℕ) (r : State) → shape_of r ≡ dark → Sound o words r
sound_dark o words Blank e = tt
sound_dark o words (Open y) e = not_dark (grouped y) e
sound_dark o words Dark e = tt

sound_blank : (o : WordKind) (words : List ℕ) (r : State) → shape_of r ≡ shape_of Blank → Sound o words r
sound_blank o words Blank e = tt
sound_blank o words (Open y) e = let z : ◌≡◌ {A = ℕ} 0 1 = cc in absurd (omega arith)
sound_blank o words Dark e = tt

pub stays_sound_holds : StaysSound
stays_sound_holds o ordered m Blank last d sound valid = sound_blank o m.live
stays_sound_holds o ordered m (Open x) last d sound valid =
    call_ends o ordered m x last d sound valid (SoundAfter o) (λ e why. sound_groups o m.live (grouped x) sound) (λ same. sound_groups o m.live (grouped x) sound)
    (λ before commit after w ended.
    let words = (perform m (change before commit)).after.live in
    let tree : SoundTree o words after = subst (λ ws. SoundTree o ws after) (sym (performed_live m (change before commit) ended)) w.fulfils.sound in
    let gs = regrouped (grouped x) (number_for o x (key_of d)) after in
    sound_groups o words gs (fits_after o ordered words (concat gs) after tree w.lists.leaves w.lists.between))
    (λ before commit after w e ended. sound_dark o (perform m (change before commit)).after.live)
stays_sound_holds o ordered m Dark last d sound valid = sound_dark o m.live

pub call_done_holds : CallDone
call_done_holds o ordered m Blank last d sound valid = λ steps q. err_ok refl q
call_done_holds o ordered m (Open x) last d sound valid =
    let ks = numbers (listed x) in
    let up : Ascending o (book o m.live) = subst (λ js. Ascending o (all_pairs o m.live js)) (sym (linked_is o ordered m.live ks sound.opens)) (book_ascends o ordered m.live ks sound.opens) in
    call_ends o ordered m x last d sound valid (DoneAfter o m d) (λ e why steps q. err_ok refl q) (λ same steps q. sym (nothing_changes_hold o ordered d (book o m.live) up same))
    (λ before commit after w ended steps q. ap (book o) (performed_live m (change before commit) ended) ∙ w.fulfils.turns.done.1)
    (λ before commit after w e ended steps q. err_ok refl q)
call_done_holds o ordered m Dark last d sound valid = λ steps q. err_ok refl q

same_halt : (a b : Halt) → ◌≡◌ {A = Result ℕ Halt} (Err a) (Err b) → a ≡ b
same_halt a b e = cc

-- A call's own refusal, and one of the memory.
own_refusal : (o : WordKind) (m : Words) (s : State) (last : Option ℕ) (d : Deed) (e : Refusal) → Why o m.live s last d e → (h : Halt) → ◌≡◌ {A = Result ℕ Halt} (Err (halted e 0)) (Err h)
    → Refused o m s last d h (ending (Err (halted e 0)) m (shape_of s) last)
own_refusal o m s last d e why h q =
    subst (λ h. Refused o m s last d h (ending (Err (halted e 0)) m (shape_of s) last)) (same_halt (halted e 0) h q)
    (record { steps = refl; memory = refl; shape = refl; taken = refl; why = why })

told_refusal : (P : Refusal → Type 0) (e : Refusal) (n : ℕ) (h : Halt) → ◌≡◌ {A = Result ℕ Halt} (Err (halted e n)) (Err h) → P e → P h.refusal
told_refusal P e n h q p = subst (λ h. P h.refusal) (same_halt (halted e n) h q) p

pub refuses_hold : Refuses
refuses_hold o ordered m Blank last d sound valid = λ h q. inr (own_refusal o m Blank last d NotOpened refl h q)
refuses_hold o ordered m (Open x) last d sound valid =
    call_ends o ordered m x last d sound valid (λ e. (h : Halt) → e.answer ≡ Err h → FromMemory h.refusal ⊎ Refused o m (Open x) last d h e) (λ e why h q. inr (own_refusal o m (Open x) last d e why h q)) (λ same h q. err_ok q refl)
    (λ before commit after w ended h q. err_ok q refl)
    (λ before commit after w e ended h q. inl (told_refusal FromMemory e _ h q (performed_refusal m (change before commit) e w.fulfils.turns.proper ended)))
refuses_hold o ordered m Dark last d sound valid = λ h q. inl (told_refusal FromMemory NoPower 0 h q (inl refl))

-- Refused for room.
room_refusal : (e : Refusal) (n : ℕ) → ◌≡◌ {A = Result ℕ Halt} (Err (halted e n)) (Err (halted NoRoom 0)) → e ≡ NoRoom
room_refusal e n q = ap (λ (h : Halt). h.refusal) (same_halt (halted e n) (halted NoRoom 0) q)

memory_no_room : (e : Refusal) → FromMemory e → e ≡ NoRoom → ⊥
memory_no_room e from is = ⊎_elim (λ dry. room_no_power (sym is ∙ dry)) (λ torn. let n = ap number_of (sym torn ∙ is) in absurd (omega arith)) from

pub room_told_holds : RoomTold
room_told_holds o ordered m x last d sound valid =
    let held = lookup (key_of d) (book o m.live) in
    call_ends o ordered m x last d sound valid (λ e. ExactlyWhen (e.answer ≡ Err (halted NoRoom 0)) (Goes d held × LacksRoom by_rule o m.live (tree_of x last) d))
    (λ e why. (
      λ q. ⊎_elim (λ own. absurd (declined_no_room d held (subst (Declines d held) (room_refusal e 0 q) own))) (λ full. (full.1, full.2)) why,
      λ (goes, lacks). ⊎_elim (λ own. absurd (goes_not_declined d held e goes own)) (λ full. ap (λ f. Err (halted f 0)) full.0) why,
    ))
    (λ same. (λ q. err_ok q refl, λ (goes, lacks). absurd (goes_not_held d held goes same)))
    (λ before commit after w ended. (λ q. err_ok q refl, λ (goes, lacks). absurd (w.roomy lacks)))
    (λ before commit after w e ended. (
      λ q. absurd (memory_no_room e (performed_refusal m (change before commit) e w.fulfils.turns.proper ended) (room_refusal e _ q)),
      λ (goes, lacks). absurd (w.roomy lacks),
    ))

enough_less : (p : Power) (j k : ℕ) → j ≤ k → Enough p k → Enough p j
enough_less endless j k le h = tt
enough_less (left a) j k le h = omega arith

pub stays_settled_holds : StaysSettled
stays_settled_holds o ordered m Blank last d sound valid settled = record {
  granted = λ steps q. err_ok refl q;
  refused = λ h q. inr (own_refusal o m Blank last d NotOpened refl h q);
  powered = λ bright enough h q. own_refusal o m Blank last d NotOpened refl h q;
}
stays_settled_holds o ordered m (Open x) last d sound valid settled =
    call_ends o ordered m x last d sound valid (Settles o m (Open x) last d)
    (λ e why. record {
      granted = λ steps q. err_ok refl q;
      refused = λ h q. inr (own_refusal o m (Open x) last d e why h q);
      powered = λ bright enough h q. own_refusal o m (Open x) last d e why h q;
    })
    (λ same. record { granted = λ steps q. settled; refused = λ h q. err_ok q refl; powered = λ bright enough h q. err_ok q refl })
    (λ before commit after w ended. record {
      granted = λ steps q. (granted_steps_hold o m before commit after.leaves (book o m.live) (done o d (book o m.live)) (settled, (numbers (listed x), (sound.opens, refl))) w.fulfils.turns ended).0;
      refused = λ h q. err_ok q refl;
      powered = λ bright enough h q. err_ok q refl;
    })
    (λ before commit after w e ended.
    let turned = turns_hold o m before commit (numbers (listed x)) after.leaves (done o d (book o m.live)) settled sound.opens w.fulfils.turns in
    record {
      granted = λ steps q. err_ok refl q;
      refused = λ h q. inl (told_refusal (λ r. r ≡ NoPower) e _ h q (⊎_elim (λ ok. err_ok ended ok) (λ dry. same_refusal _ _ (sym ended ∙ dry)) turned.ended));
      powered = λ bright enough h q. err_ok ended (turned.granted (enough_less m.power (cost (change before commit)) (steps_enough o m.live (tree_of x last) d) w.fulfils.few enough)).0;
    })
stays_settled_holds o ordered m Dark last d sound valid settled = record {
  granted = λ steps q. err_ok refl q;
  refused = λ h q. inl (told_refusal (λ r. r ≡ NoPower) NoPower 0 h q refl);
  powered = λ bright enough h q. absurd (bright refl);
}

no_steps : (m : Words) → (0 ≤ 87) × Enough m.power 0 × (m.power ≡ fall m.power 0)
no_steps m = (omega arith, enough_none m.power, sym (fall_none m.power))

ran_steps : (o : WordKind) (m : Words) (x : Index) (last : Option ℕ) (d : Deed) (before : List LineWrite) (commit : Store) (after : Tree) → Written o m x last d before commit after
    → ((perform m (change before commit)).steps ≤ 87) × Enough m.power (perform m (change before commit)).steps × ((perform m (change before commit)).after.power ≡ fall m.power (perform m (change before commit)).steps)
ran_steps o m x last d before commit after w =
    let ws = change before commit in (
      omega (arith, performed_few m ws, w.fulfils.few, enough_few o m.live (tree_of x last) d),
      performed_enough m ws,
      performed_power m ws,
    )

pub few_steps_hold : FewSteps
few_steps_hold o ordered m Blank last d sound valid = no_steps m
few_steps_hold o ordered m (Open x) last d sound valid =
    call_ends o ordered m x last d sound valid (StepsTold m) (λ e why. no_steps m) (λ same. no_steps m)
    (λ before commit after w ended. ran_steps o m x last d before commit after w) (λ before commit after w e ended. ran_steps o m x last d before commit after w)
few_steps_hold o ordered m Dark last d sound valid = no_steps m

pub remove_goes_holds : RemoveGoes
remove_goes_holds o ordered m x last w r sound valid held =
    call_ends o ordered m x last (Remove w) sound valid GrantedOrMemory
    (λ e why. ⊎_elim (λ own. absurd (none-some r (sym own.1 ∙ held))) (λ full. absurd (false≢true ((rule_splits_holds o m.live (tree_of x last) (Remove w)).0 full.2.splits).0)) why)
    (λ same. absurd same)
    (λ before commit after writ ended. inl (_, refl))
    (λ before commit after writ e ended. inr (_, refl, performed_refusal m (change before commit) e writ.fulfils.turns.proper ended))

spare_open : (o : WordKind) (words : List ℕ) (x : Index) → Fits o words (listed x) → length (listed x) < word words 3
spare_open o words x fits = let count = length-map (listed x) (λ (e : Entry). e.to) in omega (arith, (opens_from o words (numbers (listed x)) fits.opens).spare)

pub one_free_holds : OneFree
one_free_holds o ordered m s last d sound valid x q = spare_open o _ x (stays_sound_holds o ordered m s last d sound valid (Open x) q)

-- What holds of every call holds of an ending that is a call's.
pub of_call : (P : WordKind → Words → State → Option ℕ → Deed → Ending → Type 0) → OfCalls P → (o : WordKind) → WordOrdered o → (m : Words) (s : State) (last : Option ℕ) (d : Deed)
    → Sound o m.live s → o.valid (key_of d) ≡ true → (e : Ending) → e ≡ call_ending o m s last d → P o m s last d e
of_call P law o ordered m s last d sound valid e is = subst (P o m s last d) (sym is) (law o ordered m s last d sound valid)

-- A logbook that ended a call so is sound.
pub sound_after : (o : WordKind) → WordOrdered o → (m : Words) (s : State) (last : Option ℕ) (d : Deed) → Sound o m.live s → o.valid (key_of d) ≡ true
    → (answer : Result ℕ Halt) (after : Words) (r : State) (taken : Option ℕ) → ending answer after (shape_of r) taken ≡ call_ending o m s last d → Sound o after.live r
sound_after o ordered m s last d sound valid answer after r taken is =
    of_call (λ o m s last d e. SoundAfter o e) stays_sound_holds o ordered m s last d sound valid (ending answer after (shape_of r) taken) is r refl

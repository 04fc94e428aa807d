-- A call of an open logbook is answered as the plain book has it, and leaves what stands for it.
use Rattle.std.proofs.Common.{◌≡◌, ℕ, ◌<◌, ◌≤◌, true, List, Some, None, Ok, Err, Option, Result, sym, refl, ap, ◌∙◌, subst, inl, inr, ⊎_elim, arith}
use Rattle.std.proofs.lemmas.Bool.{both_ways}
use Rattle.std.proofs.lemmas.Option.{none-some}
use Rattle.refusal.specs.declared.Refusal.{Refusal}
use Rattle.refusal.specs.declared.Refusal.TheVariants.{NoPower, NoRoom}
use Rattle.keys.specs.InWords.{WordKind, WordOrdered}
use Rattle.memory.specs.Meaning.{Power, Words, endless, left, Settled}
use Rattle.leaves.specs.declared.leaf.Pair.{Pair}
use Rattle.leaves.specs.Pairs.{lookup}
use Rattle.leaves.specs.Ascent.{Ascending, all_pairs}
use Rattle.leaves.proofs.BookLaws.{err_ok, book_ascends}
use Rattle.writes.specs.Writes.{Store, LineWrite, fall, perform}
use Rattle.writes.specs.Laws.{Enough, change}
use Rattle.writes.proofs.Runs.{fall_none}
use Rattle.books.specs.Footprint.{book}
use Rattle.books.proofs.OpensLaws.{opens_from}
use Rattle.books.proofs.QuestionLaws.{linked_is}
use Rattle.turns.specs.Turns.{HoldsBook, Turns}
use Rattle.plans.specs.declared.deed.Deed.{Deed}
use Rattle.plans.specs.declared.deed.Deed.TheVariants.{Put, Change, Remove}
use Rattle.plans.specs.Deeds.{key_of, Declines, BringsHeld, Goes}
use Rattle.plans.specs.Told.{Choice, Lawful}
use Rattle.plans.specs.Plan.{Tree, site, Plan, refuse, nothing, writes, plan_by}
use Rattle.plans.specs.Laws.{Sound, Holds}
use Rattle.plans.specs.Room.{LacksRoom, steps_enough}
use Rattle.plans.proofs.DeedLaws.{declines_one, goes_not_declined, held_not_declined, goes_not_held, room_no_power, declined_no_room, declined_no_power}
use Rattle.plans.proofs.PlanLaws.{plans_hold}
use Rattle.plans.proofs.RoomLaws.{enough_few}
use Rattle.histories.specs.PlainBook.{with_call, Ending, finished, unfinished, neither, plain}
use Rattle.histories.specs.Outcome.{Logbook, blank, in_use, dark, State, Answer, Outcome, wrote, by_plan, outcome, commit_of, commit_word}
use Rattle.histories.specs.Histories.{called}
use Rattle.histories.specs.Answering.{RemoveLaw, OpenCall, EndingLaw, CallLaw}
use Rattle.histories.specs.Law.{Account, account_of, fed, Stands}
use Rattle.histories.proofs.CommitLaws.{Placed, WellPlaced, plan_placed}
use Rattle.histories.proofs.PlainLaws.{reading_same, done_same, done_other, done_held}
use Rattle.histories.proofs.RunLaws.{Granted, Refused, ends}

-- A call that power broke off, on a settled memory with this book, and its commit word.
pub record Broken (o : WordKind) (m : Words) (ps : List Pair) (d : Deed) (commit : Store) : Type 0 where
  pub old : Words
  pub before : List LineWrite
  pub from : List ℕ
  pub ks : List ℕ
  pub settled : Settled old
  pub held : HoldsBook o old.live from ps
  pub turns : Turns o old.live before commit ks (with_call o d ps)
  pub is : m ≡ (perform old (change before commit)).after
  pub other : with_call o d ps ≡ ps → ⊥

-- What stands for an account, all along a history.
abbrev pub Kept : WordKind → Words → Logbook → List Pair → Option Deed → Option Store → Type 0
Kept o m blank ps w c = ⊥
Kept o m (in_use t) ps None None = Settled m × Sound o m.live t × (book o m.live ≡ ps)
Kept o m (in_use t) ps None (Some c) = ⊥
Kept o m (in_use t) ps (Some d) c = ⊥
Kept o m dark ps None c = ⊥
Kept o m dark ps (Some d) None = ⊥
Kept o m dark ps (Some d) (Some c) = Broken o m ps d c

abbrev pub KeptFor : WordKind → State → Account → Type 0
KeptFor o s now = Kept o s.memory s.logbook now.book.pairs now.book.waiting now.commit

pub kept_stands : (o : WordKind) (m : Words) (l : Logbook) (ps : List Pair) (w : Option Deed) (c : Option Store) → Kept o m l ps w c → Stands o m l ps w c
kept_stands o m blank ps w c h = absurd h
kept_stands o m (in_use t) ps None None h = h
kept_stands o m (in_use t) ps None (Some c) h = absurd h
kept_stands o m (in_use t) ps (Some d) c h = absurd h
kept_stands o m dark ps None c h = absurd h
kept_stands o m dark ps (Some d) None h = absurd h
kept_stands o m dark ps (Some d) (Some c) h = tt

-- The law at a call, and what stands after it.
abbrev pub CallStep : Choice → WordKind → Account → State → Deed → Outcome → Type 0
CallStep choose o now s d out =
    CallLaw choose o now.book s out.state d out.answer out.ending × KeptFor o out.state (fed choose o s (called d out.answer out.ending) now)

same_err : {A : Type 0} (e f : Refusal) → ◌≡◌ {A = Result A Refusal} (Err e) (Err f) → e ≡ f
same_err {A} e f is = ap of is
  where
    of : Result A Refusal → Refusal
    of (Err g) = g
    of (Ok x) = e

same_ok : {A : Type 0} (x y : A) → ◌≡◌ {A = Result A Refusal} (Ok x) (Ok y) → x ≡ y
same_ok {A} x y is = ap of is
  where
    of : Result A Refusal → A
    of (Err g) = x
    of (Ok z) = z

pub unpowered_removes : (d : Deed) (had : Option ℕ) (n : ℕ) → RemoveLaw d had (record { result = Err NoPower; steps = n })
unpowered_removes (Put w r) had n = tt
unpowered_removes (Change w r) had n = tt
unpowered_removes (Remove w) had n = λ r is. inr refl

-- The steps that were left, all of them, were there.
all_there : (p : Power) (n : ℕ) → p ≡ left n → Enough p n
all_there p n is = subst (λ q. Enough q n) (sym is) (omega arith)

pub none_there : (p : Power) → Enough p 0
none_there endless = tt
none_there (left n) = omega arith

module _ (choose : Choice) (o : WordKind) (ordered : WordOrdered o) (m : Words) (t : Tree) (settled : Settled m) (sound : Sound o m.live t) where
  abbrev ps : List Pair
  ps = book o m.live

  abbrev s : State
  s = record { memory = m; logbook = in_use t }

  -- The reading held of a call's key.
  abbrev held : Deed → Option ℕ
  held d = lookup (key_of d) ps

  ascends : Ascending o ps
  ascends = subst (λ ks. Ascending o (all_pairs o m.live ks)) (sym (linked_is o ordered m.live t.leaves sound.opens)) (book_ascends o ordered m.live t.leaves sound.opens)

  -- The law at a call, from what is held of its key.
  call_law : (d : Deed) (later : State) (a : Answer) (e : Ending) → OpenCall choose o (held d) s later d a → RemoveLaw d (held d) a → EndingLaw choose o (plain ps) s d a e → Enough m.power a.steps → later.memory.power ≡ fall m.power a.steps → a.steps ≤ 87 → CallLaw choose o (plain ps) s later d a e
  call_law d later a e law removes ends there spent few = record {
    while_open = λ _. rw (reading_same (key_of d) ps) law;
    while_dark = λ w none. absurd (none-some w none);
    remove = rw (reading_same (key_of d) ps) removes;
    ends = ends;
    there = there;
    spent = spent;
    few = few;
  }

  refused_powered : (d : Deed) (e : Refusal) → Holds choose o m.live t d (refuse e) → e ≡ NoPower → ⊥
  refused_powered d e good is =
      ⊎_elim
      (λ own. declined_no_power d (held d) (subst (Declines d (held d)) is own))
      (λ room. room_no_power (sym room.0 ∙ is))
      good

  refused_law : (d : Deed) (e : Refusal) → Holds choose o m.live t d (refuse e) → OpenCall choose o (held d) s s d (record { result = Err e; steps = 0 })
  refused_law d e good = record {
    grants = λ had is. err_ok refl is;
    declines = λ f unroom unpowered. (
      λ is.
          ⊎_elim
          (λ own. subst (Declines d (held d)) (same_err e f is) own)
          (λ room. absurd (unroom (sym (same_err e f is) ∙ room.0)))
          good,
      λ own.
          ap Err
          (⊎_elim
          (λ mine. declines_one d (held d) e f mine own)
          (λ room. absurd (goes_not_declined d (held d) f room.1 own))
          good),
    );
    room = (
      λ is.
          ⊎_elim
          (λ own. absurd (declined_no_room d (held d) (subst (Declines d (held d)) (same_err e NoRoom is) own)))
          (λ room. (room.1, room.2))
          good,
      λ (goes, lacks).
          ⊎_elim
          (λ own. absurd (goes_not_declined d (held d) e goes own))
          (λ room. ap Err room.0)
          good,
    );
    power = λ is. absurd (refused_powered d e good (same_err e NoPower is));
    leaves = λ f is unpowered. (refl, refl);
    nothing = λ brings.
        absurd
        (⊎_elim
        (λ own. held_not_declined d (held d) e brings own)
        (λ room. goes_not_held d (held d) room.1 brings)
        good);
    few = omega arith;
    goes = λ goes roomy enough.
        absurd
        (⊎_elim
        (λ own. goes_not_declined d (held d) e goes own)
        (λ room. roomy room.2)
        good);
  }

  refused_removes : (d : Deed) (e : Refusal) → Holds choose o m.live t d (refuse e) → (a : Answer) → RemoveLaw d (held d) a
  refused_removes (Put w r) e good a = tt
  refused_removes (Change w r) e good a = tt
  refused_removes (Remove w) e good a = λ r is. absurd (⊎_elim (λ own. none-some r (sym own.1 ∙ is)) (λ room. both_ways _ refl room.3) good)

  -- A call that is granted.
  granted_law : (d : Deed) (later : State) (n : ℕ) → ((e : Refusal) → Declines d (held d) e → ⊥) → (Goes d (held d) → LacksRoom choose o m.live t d → ⊥) → (BringsHeld d (held d) → (n ≡ 0) × (later ≡ s)) → n ≤ steps_enough o m.live t d → OpenCall choose o (held d) s later d (record { result = Ok (held d); steps = n })
  granted_law d later n own roomy idle few = record {
    grants = λ had is. same_ok had (held d) (sym is);
    declines = λ e unroom unpowered. (λ is. err_ok is refl, λ h. absurd (own e h));
    room = (λ is. err_ok is refl, λ (goes, lacks). absurd (roomy goes lacks));
    power = λ is. err_ok is refl;
    leaves = λ e is unpowered. err_ok is refl;
    nothing = λ brings. let (none, same) = idle brings in (ap (λ k. record { result = Ok (held d); steps = k }) none, same);
    few = few;
    goes = λ goes room enough. refl;
  }

  granted_removes : (d : Deed) (n : ℕ) → RemoveLaw d (held d) (record { result = Ok (held d); steps = n })
  granted_removes (Put w r) n = tt
  granted_removes (Change w r) n = tt
  granted_removes (Remove w) n = λ r is. inl (ap Ok is)

  -- A call that power broke off.
  broken_law : (d : Deed) (later : State) (n : ℕ) → Goes d (held d) → (LacksRoom choose o m.live t d → ⊥) → m.power ≡ left n → n < steps_enough o m.live t d → OpenCall choose o (held d) s later d (record { result = Err NoPower; steps = n })
  broken_law d later n goes roomy all few = record {
    grants = λ had is. err_ok refl is;
    declines = λ e unroom unpowered. (λ is. absurd (unpowered (sym (same_err NoPower e is))), λ own. absurd (goes_not_declined d (held d) e goes own));
    room = (λ is. absurd (room_no_power (sym (same_err NoPower NoRoom is))), λ (goes, lacks). absurd (roomy lacks));
    power = λ is. (all, few);
    leaves = λ e is unpowered. absurd (unpowered (sym (same_err NoPower e is)));
    nothing = λ brings. absurd (goes_not_held d (held d) goes brings);
    few = omega (arith, few);
    goes = λ goes room enough. let many = subst (λ p. Enough p (steps_enough o m.live t d)) all enough in absurd (omega arith);
  }

  -- What a call writes, granted or broken off.
  write_step : (d : Deed) (before : List LineWrite) (commit : Store) (new : Tree) → commit_word choose o s d ≡ Some commit → Holds choose o m.live t d (writes before commit new) → Placed o m.live t d (site o t (key_of d)) commit →
      CallStep choose o (account_of ps) s d (wrote (perform m (change before commit)).ended (perform m (change before commit)) new (held d))
  write_step d before commit new word_is (goes, roomy, good) placed =
      let r = perform m (change before commit) in
      let does = done_same o ordered d ps goes in
      let most = enough_few o m.live t d in
      let turns : Turns o m.live before commit new.leaves (with_call o d ps) = subst (Turns o m.live before commit new.leaves) (sym does) good.turns in
      ⊎_elim
      (λ (g : Granted m (change before commit) r).
      subst (λ a. CallStep choose o (account_of ps) s d (wrote a r new (held d))) (sym g.ended) (
        call_law d (record { memory = r.after; logbook = in_use new }) (record { result = Ok (held d); steps = r.steps }) finished
            (granted_law d (record { memory = r.after; logbook = in_use new }) r.steps (λ e own. goes_not_declined d (held d) e goes own) (λ _. roomy) (λ brings. absurd (goes_not_held d (held d) goes brings)) (omega (arith, g.few, good.few)))
            (granted_removes d r.steps) (held d, refl) g.there g.spent (omega (arith, g.few, good.few, most)),
        (g.settled, subst (λ words. Sound o words new) (sym g.words) good.sound, subst (λ words. book o words ≡ with_call o d ps) (sym g.words) turns.done.1),
      ))
      (λ (b : Refused m (change before commit) r).
      subst (λ a. CallStep choose o (account_of ps) s d (wrote a r new (held d))) (sym b.ended) (
        call_law d (record { memory = r.after; logbook = dark }) (record { result = Err NoPower; steps = r.steps }) unfinished
            (broken_law d (record { memory = r.after; logbook = dark }) r.steps goes roomy b.all (omega (arith, b.few, good.few)))
            (unpowered_removes d (held d) r.steps) (refl, refl, (commit, word_is, record { append = placed.append; rewrite = placed.rewrite; differs = turns.differs })) (all_there m.power r.steps b.all) b.spent (omega (arith, b.few, good.few, most)),
        subst (λ c. Kept o r.after dark ps (Some d) c) (sym word_is) (record {
          old = m;
          before = before;
          from = t.leaves;
          ks = new.leaves;
          settled = settled;
          held = (sound.opens, refl);
          turns = turns;
          is = refl;
          other = done_other o ordered d ps goes;
        }),
      ))
      (ends m (change before commit) settled turns.proper)

  -- The call by its plan.
  step_by : (d : Deed) (p : Plan) → commit_word choose o s d ≡ commit_of p → Holds choose o m.live t d p → WellPlaced o m.live t d (site o t (key_of d)) p → CallStep choose o (account_of ps) s d (by_plan m t (held d) p)
  step_by d (refuse e) is good placed = (
    call_law d s (record { result = Err e; steps = 0 }) neither (refused_law d e good) (refused_removes d e good (record { result = Err e; steps = 0 })) (e, refl, λ none. refused_powered d e good) (none_there m.power) (sym (fall_none m.power)) (omega arith),
    (settled, sound, refl),
  )
  step_by d nothing is good placed = (
    call_law d s (record { result = Ok (held d); steps = 0 }) finished
        (granted_law d s 0 (λ e own. held_not_declined d (held d) e good own) (λ goes. absurd (goes_not_held d (held d) goes good)) (λ brings. (refl, refl)) (omega arith))
        (granted_removes d 0) (held d, refl) (none_there m.power) (sym (fall_none m.power)) (omega arith),
    (settled, sound, sym (done_held o ordered d ps ascends good)),
  )
  step_by d (writes before commit new) is good placed = write_step d before commit new is good placed

  pub call_step : Lawful choose → (d : Deed) → o.valid (key_of d) ≡ true → CallStep choose o (account_of ps) s d (outcome choose o s d)
  call_step lawful d valid =
      step_by d (plan_by choose o m.live t d) refl (plans_hold choose lawful o ordered m.live t d sound valid) (plan_placed choose o m.live t (opens_from o m.live t.leaves sound.opens).spare d)

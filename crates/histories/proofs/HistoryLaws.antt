-- Every history is lawful.
use Rattle.std.proofs.Common.{◌≡◌, ℕ, List, [], ◌∷◌, Some, None, Option, sym, refl, ap, ◌∙◌, subst, ⊎_elim, arith}
use Rattle.std.proofs.lemmas.Bool.{cases_Bool, cond-true, cond-false, eqb-true, eqb-false}
use Rattle.std.proofs.lemmas.Option.{none-some, same_Some}
use Rattle.refusal.specs.declared.Refusal.TheVariants.{NoPower}
use Rattle.keys.specs.InWords.{WordKind, WordOrdered}
use Rattle.memory.specs.Meaning.{Words, Power, Settled, picked}
use Rattle.memory.proofs.Words.{picked_same}
use Rattle.leaves.specs.declared.leaf.Pair.{Pair}
use Rattle.writes.specs.Writes.{Store, perform}
use Rattle.writes.specs.Laws.{Cut, change, New}
use Rattle.writes.proofs.Runs.{fall_none}
use Rattle.books.specs.Footprint.{book}
use Rattle.books.proofs.BoundLaws.{opening_bounds_hold}
use Rattle.turns.specs.Turns.{HoldsBook, Turned, stands_new, settled_on}
use Rattle.turns.proofs.TurnLaws.{turns_hold}
use Rattle.plans.specs.declared.deed.Deed.{Deed}
use Rattle.plans.specs.Told.{Choice, Lawful}
use Rattle.histories.specs.PlainBook.{with_call}
use Rattle.histories.specs.Outcome.{Logbook, blank, in_use, dark, State, by_opening, opened, outcome, replies}
use Rattle.histories.specs.Histories.{Event, called, asked, cut, Happens, after, History}
use Rattle.histories.specs.Law.{Account, account_of, EventLaw, fed, HistoryLaw, LawfulFrom}
use Rattle.histories.proofs.PlainLaws.{tells_same}
use Rattle.histories.proofs.CallLaws.{Broken, Kept, KeptFor, kept_stands, CallStep, none_there, unpowered_removes, call_step}

abbrev waiting : List Pair → Deed → Store → Account
waiting ps d c = record { book = record { pairs = ps; waiting = Some d }; commit = Some c }

-- A logbook opened on words that hold a book.
opened_kept : (o : WordKind) → WordOrdered o → (m : Words) (words ks : List ℕ) (ps : List Pair) (power : Power) → HoldsBook o words ks ps → Kept o (settled_on m words power) (opened o words) ps None None
opened_kept o ordered m words ks ps power h =
    subst (λ a. Kept o (settled_on m words power) (by_opening o words a) ps None None) (sym h.0)
    (refl, record { opens = h.0; bounded = opening_bounds_hold o ordered words ks h.0 }, h.1)

-- A cut of a settled memory changes no word.
quiet : (m : Words) → Settled m → (words : List ℕ) → Cut m words → words ≡ m.live
quiet m settled words (keeps, is) = is ∙ (ap (picked keeps m.live) (sym settled) ∙ sym (picked_same keeps m.live))

module _ (choose : Choice) (lawful : Lawful choose) (o : WordKind) (ordered : WordOrdered o) where
  -- The law at an event, and what stands after it.
  abbrev Step : State → Event → Account → Type 0
  Step s e now = EventLaw choose o now s (after choose o s e) e × KeptFor o (after choose o s e) (fed choose o s e now)

  -- A cut while a call waits.
  broken_step : (m : Words) (ps : List Pair) (d : Deed) (c : Store) (words : List ℕ) (power : Power) → Broken o m ps d c → Cut m words → Step (record { memory = m; logbook = dark }) (cut words power) (waiting ps d c)
  broken_step m ps d c words power b torn =
      let turned : Turned o b.old b.before c b.from b.ks (with_call o d ps) = turns_hold o b.old b.before c b.from b.ks (with_call o d ps) b.settled b.held.0 b.turns in
      let torn_old : Cut (perform b.old (change b.before c)).after words = subst (λ x. Cut x words) b.is torn in
      ⊎_elim
      (λ yes.
      let new : New c words = eqb-true _ _ yes in
      let h = turned.if_new words torn_old new in (
        record {
          equal = (λ same stale. b.other (sym h.1 ∙ same), λ stale. absurd (stale new));
          whole = λ x is now. subst (λ y. book o words ≡ with_call o y ps) (same_Some d x is) h.1;
          opens = (b.ks, h.0);
        },
        rw (cond-true (stands_new c words) (with_call o d ps) ps yes) (opened_kept o ordered m words b.ks (with_call o d ps) power h),
      ))
      (λ no.
      let stale : New c words → ⊥ = eqb-false _ _ no in
      let was = turned.unless_new words torn_old stale in
      let h : HoldsBook o words b.from ps = (was.0, was.1 ∙ b.held.1) in (
        record {
          equal = (λ same. stale, λ none. h.1);
          whole = λ x is new. absurd (stale new);
          opens = (b.from, h.0);
        },
        rw (cond-false (stands_new c words) (with_call o d ps) ps no) (opened_kept o ordered m words b.from ps power h),
      ))
      (cases_Bool (stands_new c words))

  -- A call while one waits.
  dark_step : (m : Words) (ps : List Pair) (w : Deed) (c : Store) (d : Deed) → Broken o m ps w c → CallStep choose o (waiting ps w c) (record { memory = m; logbook = dark }) d (outcome choose o (record { memory = m; logbook = dark }) d)
  dark_step m ps w c d b = (
    record {
      while_open = λ none. absurd (none-some w (sym none));
      while_dark = λ x is. (refl, refl);
      remove = unpowered_removes d _ 0;
      ends = (NoPower, refl, λ none. absurd (none-some w (sym none)));
      there = none_there m.power;
      spent = sym (fall_none m.power);
      few = omega arith;
    },
    b,
  )

  step : (m : Words) (l : Logbook) (ps : List Pair) (w : Option Deed) (c : Option Store) (e : Event) → Kept o m l ps w c → Happens choose o (record { memory = m; logbook = l }) e → Step (record { memory = m; logbook = l }) e (record { book = record { pairs = ps; waiting = w }; commit = c })
  step m blank ps w c e kept h = absurd kept
  step m (in_use t) ps (Some w) c e kept h = absurd kept
  step m (in_use t) ps None (Some c) e kept h = absurd kept
  step m dark ps None c e kept h = absurd kept
  step m dark ps (Some w) None e kept h = absurd kept
  step m (in_use t) ps None None (called d a e) (settled, sound, is) (valid, answered, ended) =
      subst (λ qs. Step (record { memory = m; logbook = in_use t }) (called d a e) (account_of qs)) is (rw (answered, ended) (call_step choose o ordered m t settled sound lawful d valid))
  step m (in_use t) ps None None (asked q r) (settled, sound, is) h = (
    record { while_open = λ _. h ∙ (ap (replies o q) is ∙ sym (tells_same o q ps)); while_dark = λ w none. absurd (none-some w none) },
    (settled, sound, is),
  )
  step m (in_use t) ps None None (cut words power) (settled, sound, is) torn =
      let h : HoldsBook o words t.leaves ps = rw (quiet m settled words torn) (sound.opens, is) in (
        record {
          equal = (λ same no. no, λ none. h.1);
          whole = λ x none new. absurd (none-some x none);
          opens = (t.leaves, h.0);
        },
        opened_kept o ordered m words t.leaves ps power h,
      )
  step m dark ps (Some w) (Some c) (called d a e) kept (valid, answered, ended) = rw (answered, ended) (dark_step m ps w c d kept)
  step m dark ps (Some w) (Some c) (asked q r) kept h = (record { while_open = λ none. absurd (none-some w (sym none)); while_dark = λ x is. h }, kept)
  step m dark ps (Some w) (Some c) (cut words power) kept torn = broken_step m ps w c words power kept torn

  pub all_lawful : (s : State) (now : Account) (es : List Event) → KeptFor o s now → History choose o s es → HistoryLaw choose o s now es
  all_lawful s now [] kept h = kept_stands o s.memory s.logbook now.book.pairs now.book.waiting now.commit kept
  all_lawful s now (e ∷ es) kept h =
      let next = step s.memory s.logbook now.book.pairs now.book.waiting now.commit e kept h.0 in
      (kept_stands o s.memory s.logbook now.book.pairs now.book.waiting now.commit kept, next.0, all_lawful (after choose o s e) (fed choose o s e now) es next.1 h.1)

pub lawful_from_holds : LawfulFrom
lawful_from_holds choose lawful o ordered m t settled sound es h = all_lawful choose lawful o ordered _ _ es (settled, sound, refl) h

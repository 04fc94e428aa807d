use Rattle.std.proofs.Common.{◌≡◌, ℕ, Err, refl, sym, ap, ◌∙◌, subst}
use Rattle.std.proofs.lemmas.Result.{err_from_is_err_and}
use Rattle.keys.specs.InWords.{in_words}
use Rattle.refusal.specs.declared.Refusal.{Refusal}
use Rattle.keys.proofs.WordLaws.{in_words_ordered}
use Rattle.leaves.specs.Layout.{count_of, elements as elements_of}
use Rattle.leaves.specs.Pairs.{lookup}
use Rattle.plans.specs.Deeds.{key_of}
use Rattle.plans.specs.Plan.{declined, pairs_of, wish}
use Rattle.index.specs.declared.table.Index.{Index}
use Rattle.tree.specs.Halting.{halted}
use Rattle.tree.specs.Shape.{shape_of}
use Rattle.tree.specs.Turning.{Working, call_ending, changed, ending, told}
use Rattle.tree.specs.Sound.{Sound}
use Rattle.tree.specs.Walk.{HomeIn}
use Rattle.tree.specs.declared.logbook.State.{State}
use Rattle.tree.specs.declared.logbook.State.TheVariants.{Blank, Open, Dark}
use Rattle.tree.specs.declared.logbook.place.Home.{Home}
use Rattle.keys.specs.InWords.{WordKind}
use Rattle.tree.specs.Anywhere.{Answered, OwnRefusal}
use Rattle.tree.specs.Calls.{FromMemory}
use Rattle.tree.proofs.AnywhereLaws.{declines, granted_own, granted_within, not_opened, wish_own}
use Rattle.tree.proofs.LocatedLaws.{never_ok}
use Rattle.books.specs.Footprint.{book}
use Rattle.tree.proofs.TurnLaws.{at_work, called, held_here, held_in_book, not_open, seen_here, seen_never}
use Rattle.leaves.specs.declared.leaf.Seen.{Seen}
use Rattle.leaves.specs.Asking.{counted, seen}
use Rattle.tree.proofs.logbook.Logbook.turn.Given.{Over}
use Rattle.tree.proofs.logbook.Logbook.turn.Goals.{After-carry, After-wish}
use Rattle.tree.proofs.logbook.Logbook.turn.Goals as goal

-- The call is at work, on the elements that its leaf counts, with what the leaf says of the key.
record Begun (g : Over) (c : After-wish g) (x : Index) : Type 0 where
  work : Working (in_words g.K.Key.kind) (g.M.Memory.meaning c.args.self.now.memory).live x (key_of c.args.deed) c.in_ok-home.home
  read : c.in_ok-seen.seen.count ≡ count_of (g.M.Memory.meaning c.args.self.now.memory).live c.in_ok-home.home.leaf
  held : c.in_ok-seen.seen.held ≡ lookup (key_of c.args.deed) (pairs_of (in_words g.K.Key.kind) (g.M.Memory.meaning c.args.self.now.memory).live c.in_ok-home.home.leaf)

begun : (g : Over) (c : After-wish g) (x : Index) → Working (in_words g.K.Key.kind) (g.M.Memory.meaning c.args.self.now.memory).live x (key_of c.args.deed) c.in_ok-home.home → Begun g c x
begun g c x work =
    let o = in_words g.K.Key.kind in
    let laws = in_words_ordered g.K.Key.kind g.met.K.Key.ordered g.met.K.Key.formed in
    let m = (g.M.Memory.meaning c.args.self.now.memory).live in
    let w = key_of c.args.deed in
    let s = seen_here o laws m x w c.in_ok-home.home work c.in_ok-seen.seen w (c.in_ok-seen.ensures.value ∙ ap (λ k. counted m c.in_ok-home.home.leaf (seen m c.in_ok-home.home.leaf k)) c.key.ensures) in
    record {
      work = work;
      read = ap (λ (v : Seen). v.count) s;
      held = ap (λ (v : Seen). v.held) s ∙ held_here o laws m x w c.in_ok-home.home work (elements_of m c.in_ok-home.home.leaf (count_of m c.in_ok-home.home.leaf)) refl;
    }

home_in : (g : Over) (c : After-wish g) → HomeIn (in_words g.K.Key.kind) c.args.self.now.state (key_of c.args.deed) c.in_ok-home.home
home_in g c = subst (λ w. HomeIn (in_words g.K.Key.kind) c.args.self.now.state w c.in_ok-home.home) (sym c.requires) c.in_ok-home.ensures

-- The call carried out.
carried_out : (g : Over) (c : After-carry g) → Sound (in_words g.K.Key.kind) (g.M.Memory.meaning c.args.self.now.memory).live c.args.self.now.state
    → ending c.carry.result (g.M.Memory.meaning c.carry.new.self.memory) (shape_of c.carry.new.self.state) c.carry.new.self.taken
    ≡ call_ending (in_words g.K.Key.kind) (g.M.Memory.meaning c.args.self.now.memory) c.args.self.now.state c.args.self.now.taken c.args.deed
carried_out g c h =
    let a = (goal.at.After-carry g c).After-wish in
    let o = in_words g.K.Key.kind in
    let m = g.M.Memory.meaning c.args.self.now.memory in
    at_work o m c.args.self.now.state c.args.self.now.taken c.args.deed c.in_ok-home.home
    (λ e s. ending c.carry.result (g.M.Memory.meaning c.carry.new.self.memory) (shape_of c.carry.new.self.state) c.carry.new.self.taken ≡ e) (home_in g a) h
    (λ x is work.
    let b = begun g a x work in
    (rw c.look_in.ensures.same at c.carry.ensures.done) x is work b.read (ap changed c.as_slice.ensures.value ∙ c.in_ok-list.ensures ∙ ap (wish c.args.deed) b.held))

pub returns-in_err-home-clause-ending : goal.returns-in_err-home-clause-ending
returns-in_err-home-clause-ending g c h =
    let p = err_from_is_err_and c.from_residual.result c.from_residual.ensures.1 in
    let o = in_words g.K.Key.kind in
    let no = not_open o (g.M.Memory.meaning c.args.self.now.memory) c.args.self.now.state c.args.self.now.taken c.args.deed c.in_err-home.field-0.0 c.in_err-home.ensures in
    rw (p.1, p.2) no

pub returns-in_err-seen-clause-ending : goal.returns-in_err-seen-clause-ending
returns-in_err-seen-clause-ending g c h =
    let o = in_words g.K.Key.kind in
    let laws = in_words_ordered g.K.Key.kind g.met.K.Key.ordered g.met.K.Key.formed in
    let m = g.M.Memory.meaning c.args.self.now.memory in
    let home = subst (λ w. HomeIn o c.args.self.now.state w c.in_ok-home.home) (sym c.requires) c.in_ok-home.ensures in
    at_work o m c.args.self.now.state c.args.self.now.taken c.args.deed c.in_ok-home.home (λ e s. ending (told c.from_residual-in_err-seen.result) (g.M.Memory.meaning c.look_in.new.memory) (shape_of s) c.args.self.now.taken ≡ e) home h
    (λ x is work. never_ok c.in_err-seen.field-0.0 (seen_never o laws m.live x (key_of c.args.deed) c.in_ok-home.home work c.in_err-seen.field-0.0 _ c.in_err-seen.ensures.value))

pub returns-in_err-list-clause-ending : goal.returns-in_err-list-clause-ending
returns-in_err-list-clause-ending g c h =
    let p = err_from_is_err_and c.from_residual-in_err-list.result c.from_residual-in_err-list.ensures.1 in
    let a = (goal.at.returns-in_err-list-clause-ending g c).After-wish in
    let o = in_words g.K.Key.kind in
    let laws = in_words_ordered g.K.Key.kind g.met.K.Key.ordered g.met.K.Key.formed in
    let m = g.M.Memory.meaning c.args.self.now.memory in
    rw (p.1, p.2, c.look_in.ensures.same)
    (at_work o m c.args.self.now.state c.args.self.now.taken c.args.deed c.in_ok-home.home (λ e s. ending (Err (halted c.in_err-list.field-0.0 0)) m (shape_of s) c.args.self.now.taken ≡ e) (home_in g a) h
    (λ x is work.
    let b = begun g a x work in
    called o laws m x c.args.self.now.taken c.args.deed c.in_ok-home.home work (declined c.in_err-list.field-0.0) (c.in_err-list.ensures ∙ ap (wish c.args.deed) b.held)))

pub returns-in_err-steps-clause-ending : goal.returns-in_err-steps-clause-ending
returns-in_err-steps-clause-ending g c h =
    let p = err_from_is_err_and c.from_residual-in_err-steps.result c.from_residual-in_err-steps.ensures.1 in
    let a = (goal.at.returns-in_err-steps-clause-ending g c).After-carry in
    rw (p.1, p.2, sym c.in_err-steps.was) (carried_out g a h)

pub returns-clause-ending : goal.returns-clause-ending
returns-clause-ending g c h =
    let a = (goal.at.returns-clause-ending g c).After-carry in
    rw (sym c.in_ok-steps.was) (carried_out g a h)

pub returns-clause-held : goal.returns-clause-held
returns-clause-held g c h =
    let a = (goal.at.returns-clause-held g c).After-wish in
    let o = in_words g.K.Key.kind in
    let laws = in_words_ordered g.K.Key.kind g.met.K.Key.ordered g.met.K.Key.formed in
    let m = g.M.Memory.meaning c.args.self.now.memory in
    at_work o m c.args.self.now.state c.args.self.now.taken c.args.deed c.in_ok-home.home (λ e s. c.in_ok-seen.seen.held ≡ lookup (key_of c.args.deed) (book o m.live)) (home_in g a) h
    (λ x is work. (begun g a x work).held ∙ held_in_book o laws m.live x (key_of c.args.deed) c.in_ok-home.home work)

-- A logbook where a key has a place is open.
opened : (o : WordKind) (s : State) (w : ℕ × ℕ) (h : Home) → HomeIn o s w h → (x : Index) × (s ≡ Open x)
opened o Blank w h home = absurd home
opened o (Open x) w h home = (x, refl)
opened o Dark w h home = absurd home

own_open : (o : WordKind) (s : State) (w : ℕ × ℕ) (h : Home) (e : Refusal) → HomeIn o s w h → (FromMemory e → ⊥) → OwnRefusal s e
own_open o Blank w h e home own = absurd home
own_open o (Open x) w h e home own = own
own_open o Dark w h e home own = absurd home

pub returns-in_err-home-clause-any : goal.returns-in_err-home-clause-any
returns-in_err-home-clause-any g c =
    let p = err_from_is_err_and c.from_residual.result c.from_residual.ensures.1 in
    let m = g.M.Memory.meaning c.args.self.now.memory in
    rw (p.1, p.2) (declines m c.args.self.now.state c.args.self.now.taken c.in_err-home.field-0.0 (not_opened c.args.self.now.state c.in_err-home.field-0.0 c.in_err-home.ensures))

pub returns-in_err-seen-clause-any : goal.returns-in_err-seen-clause-any
returns-in_err-seen-clause-any g c =
    let p = err_from_is_err_and c.from_residual-in_err-seen.result c.from_residual-in_err-seen.ensures.1 in
    let m = g.M.Memory.meaning c.args.self.now.memory in
    rw (p.1, p.2, c.look_in.ensures.same)
    (declines m c.args.self.now.state c.args.self.now.taken c.in_err-seen.field-0.0
    (own_open (in_words g.K.Key.kind) c.args.self.now.state _ c.in_ok-home.home c.in_err-seen.field-0.0 c.in_ok-home.ensures (granted_own m.live c.in_ok-home.home.leaf _ c.in_err-seen.field-0.0 c.in_err-seen.ensures.value)))

pub returns-in_err-list-clause-any : goal.returns-in_err-list-clause-any
returns-in_err-list-clause-any g c =
    let p = err_from_is_err_and c.from_residual-in_err-list.result c.from_residual-in_err-list.ensures.1 in
    let m = g.M.Memory.meaning c.args.self.now.memory in
    rw (p.1, p.2, c.look_in.ensures.same)
    (declines m c.args.self.now.state c.args.self.now.taken c.in_err-list.field-0.0
    (own_open (in_words g.K.Key.kind) c.args.self.now.state _ c.in_ok-home.home c.in_err-list.field-0.0 c.in_ok-home.ensures (wish_own c.args.deed c.in_ok-seen.seen.held c.in_err-list.field-0.0 c.in_err-list.ensures)))

-- The call carried out, in any memory.
carried_any : (g : Over) (c : After-carry g)
    → Answered (g.M.Memory.meaning c.args.self.now.memory) c.args.self.now.state c.args.self.now.taken (ending c.carry.result (g.M.Memory.meaning c.carry.new.self.memory) (shape_of c.carry.new.self.state) c.carry.new.self.taken)
carried_any g c =
    let a = (goal.at.After-carry g c).After-wish in
    let m = g.M.Memory.meaning c.args.self.now.memory in
    let within = granted_within m.live c.in_ok-home.home.leaf _ c.in_ok-seen.seen c.in_ok-seen.ensures.value in
    let (x, is) = opened (in_words g.K.Key.kind) c.args.self.now.state _ c.in_ok-home.home c.in_ok-home.ensures in
    (rw c.look_in.ensures.same at c.carry.ensures.any) x is within

pub returns-in_err-steps-clause-any : goal.returns-in_err-steps-clause-any
returns-in_err-steps-clause-any g c =
    let p = err_from_is_err_and c.from_residual-in_err-steps.result c.from_residual-in_err-steps.ensures.1 in
    let a = (goal.at.returns-in_err-steps-clause-any g c).After-carry in
    rw (p.1, p.2, sym c.in_err-steps.was) (carried_any g a)

pub returns-clause-any : goal.returns-clause-any
returns-clause-any g c =
    let a = (goal.at.returns-clause-any g c).After-carry in
    rw (sym c.in_ok-steps.was) (carried_any g a)

-- What a turn does to a settled memory that opens: whole, refused and cut.
use Rattle.std.proofs.Common.{◌≡◌, ℕ, ◌<◌, cond, ◌⊎◌, sym, refl, ◌∙◌, subst, inl, inr, ⊎_elim}
use Rattle.std.proofs.lemmas.Bool.{cases_Bool, cases_lt, eqb-true, eqb-false}
use Rattle.memory.specs.Meaning.{Power, endless, left}
use Rattle.leaves.proofs.BookLaws.{err_ok}
use Rattle.writes.specs.Writes.{cost}
use Rattle.writes.specs.Laws.{change, Ready, Enough}
use Rattle.writes.proofs.Cuts.{whole_holds, short_holds, power_alone_holds, commit_holds}
use Rattle.books.specs.Footprint.{footprint}
use Rattle.books.proofs.FootprintLaws.{depends_holds}
use Rattle.turns.specs.Turns.{HoldsBook, TurnLaw, stands_new, GrantedStep, CutStep}

pub turns_hold : TurnLaw
turns_hold o m before commit old ks ps settled opens t =
    let ready : Ready m before commit = record { settled = settled; proper = t.proper; old = t.differs } in
    let decided = commit_holds m before commit (footprint m.live) ready t.guards in
    record {
      ended = power_alone_holds m (change before commit) settled t.proper;
      granted = λ enough. rw (whole_holds m (change before commit) settled t.proper enough) (refl, refl, t.done);
      unless_new = λ words cut stale. let same = depends_holds o m.live words ((decided words cut).0 stale) in (same.0 ∙ opens, same.1);
      if_new = λ words cut new. rw ((decided words cut).1 new) t.done;
    }

pub enough_or_short : (p : Power) (k : ℕ) → Enough p k ⊎ ((n : ℕ) × (p ≡ left n) × (n < k))
enough_or_short endless k = inl tt
enough_or_short (left n) k = ⊎_elim (λ short. inr (n, refl, short)) inl (cases_lt n k)

pub granted_steps_hold : GrantedStep
granted_steps_hold o m before commit ks ps new (settled, (old, held)) t ended =
    let turned = turns_hold o m before commit old ks new settled held.0 t in
    ⊎_elim
    (λ enough. let (_, after, done) = turned.granted enough in (after, (ks, done)))
    (λ few. err_ok (short_holds m (change before commit) few.0 settled t.proper few.1 few.2).ended ended)
    (enough_or_short m.power (cost (change before commit)))

pub cut_steps_hold : CutStep
cut_steps_hold o m before commit ks ps new (settled, (old, held)) t words cut power =
    let turned = turns_hold o m before commit old ks new settled held.0 t in
    ⊎_elim
    (λ yes. (refl, (ks, subst (λ b. HoldsBook o words ks (cond b new ps)) (sym yes) (turned.if_new words cut (eqb-true _ _ yes)))))
    (λ no. (refl, (old, subst (λ b. HoldsBook o words old (cond b new ps)) (sym no) (let was = turned.unless_new words cut (eqb-false _ _ no) in (was.0, was.1 ∙ held.1)))))
    (cases_Bool (stands_new commit words))

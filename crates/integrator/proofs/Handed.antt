-- A session on the device, whose memory is settled at the start.
use Rattle.std.proofs.Common.{◌≡◌, ℕ, ◌≤◌, List, length, take, Ok, Err, sym, refl, ap, ◌∙◌, subst}
use Rattle.std.proofs.lemmas.List.{take_all}
use Rattle.refusal.specs.declared.Refusal.{Refusal}
use Rattle.keys.specs.InWords.{in_words}
use Rattle.memory.specs.Meaning.{Words}
use Rattle.writes.specs.Writes.{Answer}
use Rattle.tree.specs.declared.logbook.State.TheVariants.{Blank}
use Rattle.tree.specs.Formatting.{format_run}
use Rattle.session.specs.declared.act.Act.{Act}
use Rattle.session.specs.declared.act.Told.{Told}
use Rattle.session.specs.Sessions.{Session}
use Rattle.own_key.specs.GpsTimes.{gps_kind}
use Rattle.own_key.specs.declared.gps.GpsTime.{GpsTime}
use Rattle.integrator.specs.Lawful.{PlayedLawfully, device, format_answer}

handed_on : (steps leaves : ℕ) (choices : List ℕ) (acts : List (Act GpsTime)) (told : List Told) (after : Words)
    → format_answer steps leaves ≡ Ok tt → Session gps_kind (device steps) leaves choices acts told after → PlayedLawfully steps leaves choices acts told
handed_on steps leaves choices acts told after granted s =
    record { granted = granted; happened = s.happened; played = s.played; history = s.history; law = s.law refl }

module _ (steps leaves : ℕ) (m : Words) (answer : Answer) (is : m ≡ device steps) (format : answer ≡ (format_run (in_words gps_kind) Blank m leaves).ended) where
  answered : answer ≡ format_answer steps leaves
  answered = format ∙ ap (λ w. (format_run (in_words gps_kind) Blank w leaves).ended) is

  pub lawfully : (choices : List ℕ) (acts : List (Act GpsTime)) (told : List Told) (n : ℕ) (after : Words) → answer ≡ Ok tt
      → (answer ≡ Ok tt → Session gps_kind m leaves choices (take n acts) (take n told) after) → length acts ≤ n → length told ≤ n
      → PlayedLawfully steps leaves choices acts told
  lawfully choices acts told n after ok session all-acts all-told =
      let whole : Session gps_kind m leaves choices acts told after = rw (take_all n acts all-acts, take_all n told all-told) at (session ok) in
      handed_on steps leaves choices acts told after (sym answered ∙ ok) (subst (λ w. Session gps_kind w leaves choices acts told after) is whole)

  pub not_formatted : (e : Refusal) → answer ≡ Err e → format_answer steps leaves ≡ Err e
  not_formatted e err = sym answered ∙ err

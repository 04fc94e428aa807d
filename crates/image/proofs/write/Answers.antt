use Rattle.std.proofs.Common.{◌≡◌, ◌*◌, ◌^◌, ◌<◌, length, Ok, Err, refl, ◌∙◌, arith}
use Rattle.std.proofs.ByRecursion.{All-more}
use Rattle.std.proofs.lemmas.List.{take_all}
use Rattle.std.proofs.lemmas.Result.{err_from_is_err_and}
use Rattle.memory.specs.Meaning.{size_of}
use Rattle.image.specs.Image.{image, image_answer}
use Rattle.image.proofs.Images.{written_all, written_more}
use Rattle.image.proofs.Lengths.{eight_each, granted, refused}
use Rattle.image.proofs.Live.{never_refused, read_granted}
use Rattle.image.proofs.write.Goals as goal

pub returns-in_err-check_length : goal.returns-in_err-check_length
returns-in_err-check_length g c =
    let octets = c.args.octets.now in
    let m = g.M.Memory.meaning c.args.memory.now in
    let x = c.in_err-check_length.field-0.0 in
    let p = err_from_is_err_and c.from_residual.result c.from_residual.ensures.1 in
    let answer : Err x ≡ image_answer (length octets) (size_of m) = rw c.size-size.ensures at c.in_err-check_length.ensures in
    rw (p.1, p.2)
    record { answer = answer; after = refused (length octets) (size_of m) x (image m.live) octets answer; fit = λ e. grind arith; kept = refl {a = m} }

pub returns-in_err-word : goal.returns-in_err-word
returns-in_err-word g c =
    let inside : c.loop-i.i < size_of (g.M.Memory.meaning c.args.memory.now) = omega (arith, c.size-size.ensures) in
    absurd (never_refused _ _ _ _ c.loop-i.invariant.0 inside c.in_err-word.ensures.answer)

pub loop-i-preserved : goal.loop-i-preserved
loop-i-preserved g c =
    let live = (g.M.Memory.meaning c.args.memory.now).live in
    let inside : c.loop-i.i < length live = omega (arith, c.size-size.ensures) in
    let word = read_granted _ _ _ _ c.loop-i.invariant.0 inside c.in_ok-word.ensures.answer in (
      c.read.ensures.after ∙ c.loop-i.invariant.0,
      rw c.write_word.ensures.placed (written_more live c.loop-i.octets c.args.octets.now c.loop-i.i c.in_ok-word.word inside word c.loop-i.invariant.1),
      All-more (λ w. w < 2 ^ 64) live c.loop-i.i 0 inside c.loop-i.invariant.2 (omega (arith, word, c.write_word.ensures.fits)),
    )

pub returns : goal.returns
returns g c =
    let octets = c.args.octets.now in
    let live = (g.M.Memory.meaning c.args.memory.now).live in
    let answer : Ok tt ≡ image_answer (length octets) (length live) = rw c.size-size.ensures at c.in_ok-check_length.ensures in
    let each : length octets ≡ 8 * length live = eight_each (length octets) (length live) answer in
    let past = c.size-size.ensures in
    record {
      answer = answer;
      after = written_all live c.loop-i.octets octets c.loop-i.i (omega arith) each c.loop-i.invariant.1 ∙ granted (length octets) (length live) (image live) octets answer;
      fit = λ _. rw (take_all c.loop-i.i live (omega arith)) at c.loop-i.invariant.2;
      kept = c.loop-i.invariant.0;
    }

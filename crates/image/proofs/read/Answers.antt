use Rattle.std.proofs.Common.{◌≡◌, ◌*◌, ◌/◌, ◌<◌, length, ap, ◌∙◌, arith}
use Rattle.std.specs.Int.Digits.{number_from_digits}
use Rattle.std.proofs.lemmas.List.FromFn.{fill_by_all}
use Rattle.std.proofs.lemmas.List.Edits.{fill_by_more}
use Rattle.std.proofs.lemmas.Result.{err_from_is_err_and}
use Rattle.image.specs.Image.{image, octets_at, words_of}
use Rattle.image.proofs.Images.{image_of_words}
use Rattle.image.proofs.Octets.{group_at}
use Rattle.image.proofs.Lengths.{eight_each, granted, refused}
use Rattle.image.proofs.read.Goals as goal

pub returns-in_err-check_length : goal.returns-in_err-check_length
returns-in_err-check_length c =
    let p = err_from_is_err_and c.from_residual.result c.from_residual.ensures.1 in
    rw (p.1, p.2)
    record {
      answer = c.in_err-check_length.ensures;
      after = refused _ _ _ _ _ c.in_err-check_length.ensures;
      image = λ e. grind arith;
    }

pub loop-i-preserved : goal.loop-i-preserved
loop-i-preserved c =
    let n = length c.args.octets.now / 8 in
    let each : length c.args.octets.now ≡ 8 * length c.args.words.now = eight_each _ _ c.in_ok-check_length.ensures in
    let below : c.loop-i.i < n = omega (arith, c.loop-i-test.true, c.as_chunks.ensures.front_len) in
    let word : c.word_of.result ≡ number_from_digits 256 (octets_at c.args.octets.now c.loop-i.i) =
    (rw c.as_chunks.ensures.front at c.word_of.ensures) ∙ ap (number_from_digits 256) (group_at c.args.octets.now n c.loop-i.i below) in
    rw word (fill_by_more (λ k. number_from_digits 256 (octets_at c.args.octets.now k)) c.loop-i.words c.loop-i.i 0 (omega (arith, each, below, c.loop-i.auto.words)) c.loop-i.invariant)

pub returns : goal.returns
returns c =
    let octets = c.args.octets.now in
    let words = c.args.words.now in
    let each : length octets ≡ 8 * length words = eight_each (length octets) (length words) c.in_ok-check_length.ensures in
    let read : c.loop-i.words ≡ words_of octets =
    fill_by_all (λ k. number_from_digits 256 (octets_at octets k)) c.loop-i.words (length octets / 8) 0 (omega arith) (λ k h. c.loop-i.invariant k (omega arith)) in
    record {
      answer = c.in_ok-check_length.ensures;
      after = read ∙ granted _ _ _ _ c.in_ok-check_length.ensures;
      image = λ _. ap image read ∙ image_of_words octets (omega arith) (λ i. omega (arith, c.type_inv.octets i));
    }

-- What the calls append comes to what they do, and the leaf of their key takes it.
use Rattle.std.proofs.Common.{◌≡◌, ℕ, None, sym, refl, ap, ◌∙◌, arith}
use Rattle.std.proofs.lemmas.Bool.{cond-true, eq-eqb}
use Rattle.leaves.specs.Layout.{count_of}
use Rattle.leaves.specs.Pairs.{equal, lookup, applied, pairs}
use Rattle.leaves.specs.Opening.{sign_fits}
use Rattle.leaves.proofs.PairLaws.{equal_self, lookup_applied}
use Rattle.books.proofs.QuestionLaws.{finds_hold}
use Rattle.appends.specs.Append.{signed}
use Rattle.appends.specs.Calls.{CallsAre, CallsFit}

pub calls_are_hold : CallsAre
calls_are_hold o w ps old r = (refl, refl, refl)

pub calls_fit_hold : CallsFit
calls_fit_hold o ordered m pre k post w valid b =
    let here = pairs o m k (count_of m k) in
    let found = sym (finds_hold o ordered m pre k post w b) in
    let gone : (old : ℕ) → lookup w (applied o (signed w (2, old)) here) ≡ None = λ old. lookup_applied o ordered w (signed w (2, old)) here ∙ cond-true (equal w w) _ _ (equal_self w) in
    record {
      put = λ r none room. record { belongs = b; valid = valid; some = omega arith; room = room; follow = (ap (sign_fits 1 r) (found ∙ none), tt) };
      remove = λ old is room. record { belongs = b; valid = valid; some = omega arith; room = room; follow = (ap (sign_fits 2 old) (found ∙ is) ∙ eq-eqb old old refl, tt) };
      change = λ old r is room. record { belongs = b; valid = valid; some = omega arith; room = room; follow = (ap (sign_fits 2 old) (found ∙ is) ∙ eq-eqb old old refl, (ap (sign_fits 1 r) (gone old), tt)) };
    }

-- The book of opened words, leaf by leaf.
use Rattle.std.proofs.Common.{◌≡◌, ℕ, zero, suc, ◌+◌, ◌*◌, ◌<◌, ◌≤◌, Bool, List, [], ◌∷◌, ◌++◌, length, take, get_or, is_ok, if◌then◌else◌, OnOk, None, Ok, Err, Option, Result, sym, ap, ◌∙◌, append-nil, arith}
use Rattle.std.proofs.lemmas.List.{take_more}
use Rattle.fixed_vec.specs.Items.{items}
use Rattle.fixed_vec.specs.declared.FixedVec.{FixedVec}
use Rattle.keys.specs.InWords.{WordKind}
use Rattle.leaves.specs.Ascent.{all_pairs}
use Rattle.leaves.specs.Asking.{counted, granted}
use Rattle.leaves.specs.Layout.{count_of, elements, next_of, word}
use Rattle.leaves.specs.Opening.{greatest, open_answer}
use Rattle.leaves.specs.Pairs.{folded, pairs}
use Rattle.leaves.specs.declared.leaf.Element.{Element}
use Rattle.leaves.specs.declared.leaf.Pair.{Pair}
use Rattle.leaves.proofs.ElementLaws.{pairs_folded}
use Rattle.refusal.specs.declared.Refusal.{Refusal}
use Rattle.books.specs.Opens.{AllFine, Leads, UpTo, lone}
use Rattle.books.proofs.OpensLaws.{opens_from}
use Rattle.books.proofs.QuestionLaws.{all_pairs_append}
use Rattle.tree.proofs.LocatedLaws.{counts}
use Rattle.opened.specs.Openings.{IsCounted}

counted_at : (o : WordKind) (m : List ℕ) (link n : ℕ) (alone : Bool) (bound : Option (ℕ × ℕ)) (ks : List ℕ) (i : ℕ) → i < length ks → Leads m link ks → UpTo n ks → AllFine o m alone bound ks → n ≤ 64 → 8 + 72 * n ≤ length m
    → IsCounted m (get_or ks i 0)
counted_at o m link n alone bound [] i lt leads within fine most fits = absurd (omega arith)
counted_at o m link n alone bound (k ∷ ks) zero lt leads within fine most fits =
    counts m k leads.1 (omega (arith, within.0)) (omega (arith, within.0)) fine.0.few
counted_at o m link n alone bound (k ∷ ks) (suc i) lt leads within fine most fits =
    counted_at o m (next_of m k) n alone (greatest o m k (count_of m k)) ks i (omega arith) leads.2 within.1 fine.1 most fits

-- Each leaf of an opened chain can be read.
pub counted_in : (o : WordKind) (m ks : List ℕ) → open_answer o m ≡ Ok ks → (i : ℕ) → i < length ks → IsCounted m (get_or ks i 0)
counted_in o m ks opened i lt =
    let opens = opens_from o m ks opened in
    counted_at o m (word m 2) (word m 3) (lone ks) None ks i lt opens.leads opens.within opens.fine opens.most opens.fits

-- One leaf more.
pub pairs_more : (o : WordKind) (m ks : List ℕ) (i : ℕ) → i < length ks
    → all_pairs o m (take (i + 1) ks) ≡ all_pairs o m (take i ks) ++ pairs o m (get_or ks i 0) (count_of m (get_or ks i 0))
pairs_more o m ks i lt =
    let k = get_or ks i 0 in
    ap (all_pairs o m) (take_more ks i 0 lt)
    ∙ all_pairs_append o m (take i ks) (k ∷ [])
    ∙ ap (λ ps. all_pairs o m (take i ks) ++ ps) (append-nil (pairs o m k (count_of m k)))

ok_same : {E A : Type 0} {a b : A} → ◌≡◌ {A = Result A E} (Ok a) (Ok b) → a ≡ b
ok_same e = cc

-- The pairs of a leaf that can be read are those of its elements.
pub pushed : {E : Type 0} (o : WordKind) (m : List ℕ) (k : ℕ) (es : FixedVec Element 16) (run ps new : List Pair)
    → Ok (items es) ≡ counted m k (elements m k) → run ≡ folded o [] (items es)
    → (r : Result (Unit {0}) E) → new ≡ (if is_ok r then ps ++ run else ps) → IsCounted m k → OnOk r (new ≡ ps ++ pairs o m k (count_of m k))
pushed o m k es run ps new told is (Ok u) pushes is_counted =
    let own : Ok (items es) ≡ granted (Ok (count_of m k)) (elements m k) = told ∙ ap (λ (c : Result ℕ Refusal). granted c (elements m k)) is_counted in
    let elements_are : items es ≡ elements m k (count_of m k) = ok_same own in
    pushes ∙ ap (λ qs. ps ++ qs) (is ∙ ap (folded o []) elements_are ∙ sym (pairs_folded o m k (count_of m k)))
pushed o m k es run ps new told is (Err e) pushes is_counted = tt

-- One turn of reading the leaves of a chain.
pub leaf_more : (o : WordKind) (m now ks : List ℕ) (i : ℕ) (old new : List Pair) → now ≡ m → i < length ks → open_answer o m ≡ Ok ks
    → old ≡ all_pairs o m (take i ks)
    → (IsCounted now (get_or ks i 0) → new ≡ old ++ pairs o now (get_or ks i 0) (count_of now (get_or ks i 0)))
    → new ≡ all_pairs o m (take (i + 1) ks)
leaf_more o m now ks i old new is lt opened was push =
    let is_counted : IsCounted now (get_or ks i 0) = rw is (counted_in o m ks opened i lt) in
    push is_counted ∙ rw (is, was) (sym (pairs_more o m ks i lt))

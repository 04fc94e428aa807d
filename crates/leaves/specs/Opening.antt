-- The answer of opening, for every content of the memory.
use Rattle.std.specs.Prelude.{ℕ, zero, suc, ◌+◌, ◌-◌, ◌*◌, Bool, true, false, cond, not, ◌&&◌, ◌||◌, List, [], ◌∷◌, ◌++◌, length, Some, None, Ok, Err, Option, Result, ◌==◌, nat_le, nat_lt, map, if◌then◌else◌}
use Rattle.std.specs.List.{reduce}
use Rattle.keys.specs.InWords.{WordKind}
use Rattle.leaves.specs.declared.leaf.Element.{Element}
use Rattle.leaves.specs.declared.leaf.Pair.{Pair}
use Rattle.leaves.specs.declared.open.Fault.{Fault}
use Rattle.refusal.specs.declared.Refusal.{Refusal}
use Rattle.refusal.specs.declared.Refusal.TheVariants.{WrongLength, WrongMark, OtherKind, LeafCount, BadLink, BadLeaf}
use Rattle.fixed_vec.specs.declared.FixedVec.{FixedVec}
use Rattle.fixed_vec.specs.Items.{items}
use Rattle.leaves.specs.Layout.{word, element, next_of, count_of, form_of}
use Rattle.leaves.specs.Pairs.{applied, lookup, pairs}

-- What is told with a refusal: nothing; with a bad link the linking leaf, 0 for the head; with a bad leaf the leaf and the slot.
abbrev pub plain : Refusal → Fault
plain refusal = record { refusal = refusal; leaf = 0; slot = 0 }

abbrev pub bad_link_of : ℕ → Fault
bad_link_of leaf = record { refusal = BadLink; leaf = leaf; slot = 0 }

abbrev pub bad_leaf_of : ℕ → ℕ → Fault
bad_leaf_of leaf slot = record { refusal = BadLeaf; leaf = leaf; slot = slot }

-- A sign follows what is held of its key: 1 where nothing is, else 2 with the reading held.
abbrev pub sign_fits : ℕ → ℕ → Option ℕ → Bool
sign_fits sign r None = sign == 1
sign_fits sign r (Some v) = sign == 2 && r == v

-- After the bound of the leaf before; before the first leaf there is none.
abbrev pub after : WordKind → Option (ℕ × ℕ) → ℕ × ℕ → Bool
after o None k = true
after o (Some b) k = o.before b k

-- An element is good after the pairs of the older ones in its leaf and the bound of the leaf before.
abbrev pub good : WordKind → Option (ℕ × ℕ) → List Pair → Element → Bool
good o bound ps e = o.valid e.key && after o bound e.key && sign_fits e.sign e.reading (lookup e.key ps)

-- The first bad one of n slots from slot s on, told as its number plus 1.
abbrev pub first_bad : WordKind → List ℕ → Option (ℕ × ℕ) → ℕ → ℕ → ℕ → Option ℕ
first_bad o m bound k s zero = None
first_bad o m bound k s (suc n) =
    cond (good o bound (pairs o m k s) (element m k s)) (first_bad o m bound k (s + 1) n) (Some (s + 1))

-- The first bad one of some elements after older ones, of which there are s that come to these pairs.
abbrev pub first_bad_of : WordKind → Option (ℕ × ℕ) → List Pair → ℕ → List Element → Option ℕ
first_bad_of o bound ps s [] = None
first_bad_of o bound ps s (e ∷ es) = cond (good o bound ps e) (first_bad_of o bound (applied o e ps) (s + 1) es) (Some (s + 1))

-- The first fault of a leaf, told as the slot's number plus 1: before its slots, told as 0, more than 16 elements, another form than 0, or none in a leaf that is not alone.
abbrev pub leaf_fault : WordKind → List ℕ → Option (ℕ × ℕ) → Bool → ℕ → Option ℕ
leaf_fault o m bound alone k =
    cond (nat_le (count_of m k) 16 && form_of m k == 0 && (alone || nat_lt 0 (count_of m k)))
    (first_bad o m bound k 0 (count_of m k)) (Some 0)

-- The later of a key and another, if there is one.
abbrev pub later : WordKind → ℕ × ℕ → Option (ℕ × ℕ) → ℕ × ℕ
later o k None = k
later o k (Some b) = cond (o.before b k) k b

-- The greatest key of the n oldest elements of leaf k.
abbrev pub greatest : WordKind → List ℕ → ℕ → ℕ → Option (ℕ × ℕ)
greatest o m k zero = None
greatest o m k (suc n) = Some (later o (element m k n).key (greatest o m k n))

-- The greatest key of some elements.
abbrev pub greatest_key : WordKind → List Element → Option (ℕ × ℕ)
greatest_key o es = reduce (λ a b. if o.before a b then b else a) (map (λ (e : Element). e.key) es)

-- A number stands in a list.
abbrev pub member : ℕ → List ℕ → Bool
member x [] = false
member x (y ∷ ys) = x == y || member x ys

abbrev pub leaves_of : FixedVec ℕ 64 → List ℕ
leaves_of c = items c

-- An answer of opening with its chain as a list.
abbrev pub told : Result (FixedVec ℕ 64) Fault → Result (List ℕ) Fault
told (Ok c) = Ok (leaves_of c)
told (Err e) = Err e

-- At the end of the chain, which has at least one leaf.
abbrev pub ended : ℕ → List ℕ → Result (List ℕ) Fault
ended from used = cond (from == 0) (Err (bad_link_of 0)) (Ok used)

-- A leaf's fault, or what comes after the leaf.
abbrev pub checked : {X : Type 0} → ℕ → Option ℕ → Result X Fault → Result X Fault
checked leaf None r = r
checked leaf (Some s) r = Err (bad_leaf_of leaf s)

-- Along the chain: `spare` leaves may yet be linked, `used` are linked, the last is `from` with the bound `bound`.
abbrev pub walk : WordKind → List ℕ → ℕ → List ℕ → Option (ℕ × ℕ) → ℕ → ℕ → Result (List ℕ) Fault
walk o m zero used bound from link = cond (link == 0) (ended from used) (Err (bad_link_of from))
walk o m (suc spare) used bound from link =
    cond (link == 0) (ended from used)
    (cond (nat_lt (word m 3) link || member link used) (Err (bad_link_of from))
    (checked link (leaf_fault o m bound (from == 0 && next_of m link == 0) link)
    (walk o m spare (used ++ (link ∷ [])) (greatest o m link (count_of m link)) link (next_of m link))))

-- The number of leaves and the first link, or why the head is none of a book.
abbrev pub head_answer : WordKind → List ℕ → Result (ℕ × ℕ) Refusal
head_answer o m =
    cond (nat_lt (length m) 152) (Err WrongLength)
    (cond (not (word m 0 == 30366)) (Err WrongMark)
    (cond (not (word m 1 == o.code)) (Err OtherKind)
    (cond (nat_lt (word m 3) 2 || nat_lt 64 (word m 3)) (Err LeafCount)
    (cond (nat_lt (length m) (8 + 72 * word m 3)) (Err WrongLength)
    (Ok (word m 3, word m 2))))))

-- What opening answers: the length, the mark, the code, the number of leaves and the length for them, in this order; then the chain. One leaf always
-- stays free, so that of N leaves no more than N - 1 can be linked.
abbrev pub open_answer : WordKind → List ℕ → Result (List ℕ) Fault
open_answer o m =
    cond (nat_lt (length m) 152) (Err (plain WrongLength))
    (cond (not (word m 0 == 30366)) (Err (plain WrongMark))
    (cond (not (word m 1 == o.code)) (Err (plain OtherKind))
    (cond (nat_lt (word m 3) 2 || nat_lt 64 (word m 3)) (Err (plain LeafCount))
    (cond (nat_lt (length m) (8 + 72 * word m 3)) (Err (plain WrongLength))
    (walk o m (word m 3 - 1) [] None 0 (word m 2))))))

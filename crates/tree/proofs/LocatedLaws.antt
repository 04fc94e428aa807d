-- The leaf that a sound logbook's index locates is where the key belongs, and can be asked.
use Rattle.std.proofs.Common.{◌≡◌, ℕ, zero, suc, ◌+◌, ◌*◌, ◌≤◌, Bool, cond, List, [], ◌∷◌, ◌++◌, length, get_or, Some, None, Ok, Err, Option, Result, sym, refl, ap, ◌∙◌, arith}
use Rattle.std.proofs.lemmas.Bool.Decides.{nat_tests}
use Rattle.refusal.specs.declared.Refusal.{Refusal}
use Rattle.refusal.specs.declared.Refusal.TheVariants.{Absent}
use Rattle.std.specs.Option.{ok_or}
use Rattle.keys.specs.InWords.{WordKind, WordOrdered}
use Rattle.leaves.specs.Layout.{count_of, next_of, word}
use Rattle.leaves.specs.Opening.{greatest}
use Rattle.leaves.specs.Asking.{count_answer, counted, granted}
use Rattle.leaves.specs.Pairs.{lookup, pairs}
use Rattle.books.specs.Opens.{AllFine, Leads, UpTo, lone}
use Rattle.books.specs.Bounds.{locate}
use Rattle.books.specs.Footprint.{book}
use Rattle.books.specs.Questions.{Belongs}
use Rattle.books.proofs.BoundLaws.{locates}
use Rattle.books.proofs.OpensLaws.{opens_from}
use Rattle.books.proofs.QuestionLaws.{finds_hold}
use Rattle.index.specs.declared.node.Entry.{Entry}
use Rattle.index.specs.Meaning.{listed}
use Rattle.index.specs.Nodes.{bounds, entry, numbers}
use Rattle.index.specs.Search.{front, search}
use Rattle.tree.specs.declared.logbook.State.{State}
use Rattle.tree.specs.declared.logbook.State.TheVariants.{Blank, Open, Dark}
use Rattle.tree.specs.Sound.{Fits, Sound}
use Rattle.tree.specs.Telling.{Rising, asked, find_answer, found, leaf_for_key}

pub search_is : (o : WordKind) (w : ℕ × ℕ) (bs : List (ℕ × ℕ)) → search o w bs ≡ locate o w (front bs)
search_is o w [] = refl
search_is o w (b ∷ []) = refl
search_is o w (b ∷ c ∷ bs) = ap (λ n. cond (o.before b w) (suc n) 0) (search_is o w (c ∷ bs))

pub number_at : (es : List Entry) (n : ℕ) → (get_or es n (entry 0 (0, 0))).to ≡ get_or (numbers es) n 0
number_at [] n = refl
number_at (e ∷ es) zero = refl
number_at (e ∷ es) (suc n) = number_at es n

at_middle : (pre : List ℕ) (k : ℕ) (post : List ℕ) → get_or (pre ++ k ∷ post) (length pre) 0 ≡ k
at_middle [] k post = refl
at_middle (x ∷ pre) k post = at_middle pre k post

one_leads : (m : List ℕ) (link : ℕ) (pre : List ℕ) (k : ℕ) (post : List ℕ) → Leads m link (pre ++ k ∷ post) → 1 ≤ k
one_leads m link [] k post h = h.1
one_leads m link (x ∷ pre) k post h = one_leads m (next_of m x) pre k post h.2

one_within : (n : ℕ) (pre : List ℕ) (k : ℕ) (post : List ℕ) → UpTo n (pre ++ k ∷ post) → k ≤ n
one_within n [] k post h = h.0
one_within n (x ∷ pre) k post h = one_within n pre k post h.1

one_fine : (o : WordKind) (m : List ℕ) (alone : Bool) (bound : Option (ℕ × ℕ)) (pre : List ℕ) (k : ℕ) (post : List ℕ) → AllFine o m alone bound (pre ++ k ∷ post) → count_of m k ≤ 16
one_fine o m alone bound [] k post h = h.0.few
one_fine o m alone bound (x ∷ pre) k post h = one_fine o m alone (greatest o m x (count_of m x)) pre k post h.1

pub counts : (m : List ℕ) (k : ℕ) → 1 ≤ k → k ≤ 64 → 8 + 72 * k ≤ length m → count_of m k ≤ 16 → count_answer m k ≡ Ok (count_of m k)
counts m k low high long few = grind (arith, nat_tests)

-- Where a key is located in a sound logbook.
pub record Located (o : WordKind) (m : List ℕ) (s : State) (w : ℕ × ℕ) (leaf : ℕ) : Type 0 where
  pub pre : List ℕ
  pub post : List ℕ
  pub belongs : Belongs o m pre leaf post w
  pub counted : count_answer m leaf ≡ Ok (count_of m leaf)

pub rising : (o : WordKind) (m : List ℕ) (s : State) → Sound o m s → Rising o s
rising o m Blank h = tt
rising o m (Open x) h = h.ascending
rising o m Dark h = tt

pub located_in : (o : WordKind) → WordOrdered o → (m : List ℕ) (es : List Entry) (s : State) (w : ℕ × ℕ) (leaf : ℕ) → Fits o m es → leaf ≡ (get_or es (search o w (bounds es)) (entry 0 (0, 0))).to → Located o m s w leaf
located_in o ordered m es s w leaf fits is =
    let p = locates o ordered m (numbers es) (front (bounds es)) w fits.bounded in
    let opens = opens_from o m (numbers es) fits.opens in
    let place : length p.pre ≡ search o w (bounds es) = p.place ∙ sym (search_is o w (bounds es)) in
    let same : leaf ≡ p.leaf = is ∙ (number_at es (search o w (bounds es)) ∙ (ap (λ n. get_or (numbers es) n 0) (sym place) ∙ (ap (λ (ks : List ℕ). get_or ks (length p.pre) 0) p.leaves ∙ at_middle p.pre p.leaf p.post))) in
    let low = one_leads m (word m 2) p.pre p.leaf p.post (rw p.leaves at opens.leads) in
    let high = one_within (word m 3) p.pre p.leaf p.post (rw p.leaves at opens.within) in
    let few = one_fine o m (lone (p.pre ++ p.leaf ∷ p.post)) None p.pre p.leaf p.post (rw p.leaves at opens.fine) in
    rw same record {
      pre = p.pre;
      post = p.post;
      belongs = record { opens = fits.opens ∙ ap Ok p.leaves; above = p.above; below = p.below };
      counted = counts m p.leaf low (omega (arith, opens.most)) (omega (arith, opens.fits)) few;
    }

pub never_ok : {A X : Type 0} {x : X} (e : Refusal) → ◌≡◌ {A = Result X Refusal} (Ok x) (Err e) → A
never_ok e p = let z : ◌≡◌ {A = ℕ} 0 1 = cc in absurd (omega arith)

pub located : (o : WordKind) → WordOrdered o → (m : List ℕ) (s : State) (w : ℕ × ℕ) (leaf : ℕ) → Sound o m s → Ok leaf ≡ leaf_for_key o s w → Located o m s w leaf
located o ordered m Blank w leaf h e = never_ok _ e
located o ordered m (Open x) w leaf h e = located_in o ordered m (listed x) (Open x) w leaf h (cc)
located o ordered m Dark w leaf h e = never_ok _ e

-- What an open logbook answers, and what another refuses.
pub answers : {X : Type 0} (o : WordKind) (s : State) (w : ℕ × ℕ) (leaf : ℕ) (r : Result X Refusal) → Ok leaf ≡ leaf_for_key o s w → r ≡ asked s r
answers o Blank w leaf r e = never_ok _ e
answers o (Open x) w leaf r e = refl
answers o Dark w leaf r e = never_ok _ e

pub refuses : {X : Type 0} (o : WordKind) (s : State) (w : ℕ × ℕ) (e : Refusal) (r : Result X Refusal) → Err e ≡ leaf_for_key o s w → Err e ≡ asked s r
refuses o Blank w e r h = cc
refuses o (Open x) w e r h = never_ok e (sym h)
refuses o Dark w e r h = cc

-- In a sound logbook the located leaf never refuses a question, and its answer is the book's.
module _ (o : WordKind) (ordered : WordOrdered o) (m : List ℕ) (s : State) (w : ℕ × ℕ) (leaf : ℕ) (sound : Sound o m s) (is : Ok leaf ≡ leaf_for_key o s w) where
  granted_here : {X : Type 0} (say : ℕ → X) → counted m leaf say ≡ Ok (say (count_of m leaf))
  granted_here say = ap (λ (r : Result ℕ Refusal). granted r say) (located o ordered m s w leaf sound is).counted

  pub never_refused : {X A : Type 0} (say : ℕ → X) (e : Refusal) → Err e ≡ counted m leaf say → A
  never_refused say e h = let f = h ∙ granted_here say in let z : ◌≡◌ {A = ℕ} 0 1 = cc in absurd (omega arith)

  pub found_here : (told : Option ℕ) → Ok told ≡ counted m leaf (λ n. lookup w (pairs o m leaf n)) → found told ≡ find_answer o m s w
  found_here told h =
      let l = located o ordered m s w leaf sound is in
      let f = h ∙ granted_here (λ n. lookup w (pairs o m leaf n)) in
      let same : told ≡ lookup w (pairs o m leaf (count_of m leaf)) = cc in
      ap found (same ∙ sym (finds_hold o ordered m l.pre leaf l.post w l.belongs)) ∙ answers o s w leaf (found (lookup w (book o m))) is

-- A reading, or the refusal of a key that is absent.
pub found_or : (told : Option ℕ) → ok_or told Absent ≡ found told
found_or None = refl
found_or (Some r) = refl

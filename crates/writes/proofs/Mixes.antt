-- Mixes of two lists, and lists with stores made in them, word by word.
use Rattle.std.proofs.Common.{◌≡◌, ℕ, zero, suc, ◌/◌, Bool, true, false, cond, eqb, ◌⊎◌, List, [], ◌∷◌, length, get_or, take, set, sym, refl, ap, ◌∙◌, inl, inr, ⊎_elim, arith, length-set, get_or-set_other, ext_get_or}
use Rattle.std.proofs.lemmas.List.{get_or_past}
use Rattle.std.proofs.lemmas.Bool.{cases_eq, cases_lt, eqb-true, eqb-false}
use Rattle.memory.specs.Meaning.{Words, picked, CutOf}
use Rattle.memory.proofs.Words.{length_tabled, tabled_at, picked_same}
use Rattle.writes.specs.Writes.{Store, applied, Spared, Lined}
use Rattle.writes.specs.Laws.{Mix, Cut}

-- The words of line l.
abbrev pub in_line : ℕ → ℕ → Bool
in_line l i = eqb (i / 8) l

pub length_picked : (f : ℕ → Bool) (xs ys : List ℕ) → length (picked f xs ys) ≡ length xs
length_picked f xs ys = length_tabled (length xs) _

pub same_cond : {A : Type 0} (b : Bool) (x : A) → cond b x x ≡ x
same_cond true x = refl
same_cond false x = refl

pub picked_one : (f : ℕ → Bool) (xs : List ℕ) → picked f xs xs ≡ xs
picked_one f xs = sym (picked_same f xs)

pub get_or_picked : (f : ℕ → Bool) (xs ys : List ℕ) → length xs ≡ length ys → (i : ℕ) → get_or (picked f xs ys) i 0 ≡ cond (f i) (get_or xs i 0) (get_or ys i 0)
get_or_picked f xs ys e i =
    ⊎_elim
    (λ inside. tabled_at (length xs) _ i inside)
    (λ past.
    let a : get_or xs i 0 ≡ 0 = get_or_past xs i 0 past in
    let b : get_or ys i 0 ≡ 0 = get_or_past ys i 0 (omega arith) in
    get_or_past (picked f xs ys) i 0 (rw (length_picked f xs ys) past) ∙ rw (a, b) (sym (same_cond (f i) 0)))
    (cases_lt i (length xs))

-- A list of which each word stands as in one of two lists is a mix of them.
pub mix_of : (new old xs : List ℕ) → length new ≡ length old → length xs ≡ length old
    → ((i : ℕ) → (get_or xs i 0 ≡ get_or old i 0) ⊎ (get_or xs i 0 ≡ get_or new i 0))
    → xs ≡ picked (λ i. eqb (get_or xs i 0) (get_or new i 0)) new old
mix_of new old xs n e each =
    ext_get_or 0 _ _ (e ∙ sym (length_picked _ new old ∙ n)) (λ i _. at i (each i) (eqb (get_or xs i 0) (get_or new i 0)) refl ∙ sym (get_or_picked _ new old n i))
  where
    at : (i : ℕ) → (get_or xs i 0 ≡ get_or old i 0) ⊎ (get_or xs i 0 ≡ get_or new i 0) → (b : Bool) → eqb (get_or xs i 0) (get_or new i 0) ≡ b
        → get_or xs i 0 ≡ cond b (get_or new i 0) (get_or old i 0)
    at i h true t = eqb-true _ _ t
    at i h false t = ⊎_elim (λ o. o) (λ new-one. absurd (eqb-false _ _ t new-one)) h

-- Each word of a mix stands as in one of the two lists.
pub mix_each : (new old words : List ℕ) → length new ≡ length old → Mix new old words → (i : ℕ) → (get_or words i 0 ≡ get_or old i 0) ⊎ (get_or words i 0 ≡ get_or new i 0)
mix_each new old words e c i = rw (c.1, get_or_picked c.0 new old e i) (at (c.0 i))
  where
    at : (b : Bool) → (cond b (get_or new i 0) (get_or old i 0) ≡ get_or old i 0) ⊎ (cond b (get_or new i 0) (get_or old i 0) ≡ get_or new i 0)
    at true = inr refl
    at false = inl refl

-- Where the lists agree, so does a mix.
pub mix_agrees : (new old words : List ℕ) → length new ≡ length old → Mix new old words → (i : ℕ) → get_or new i 0 ≡ get_or old i 0 → get_or words i 0 ≡ get_or old i 0
mix_agrees new old words e c i same = ⊎_elim (λ o. o) (λ n. n ∙ same) (mix_each new old words e c i)

pub length_mix : (new old words : List ℕ) → Mix new old words → length words ≡ length new
length_mix new old words c = ap length c.1 ∙ length_picked c.0 new old

-- A mix of a list with itself is that list.
pub mix_same : (xs words : List ℕ) → Mix xs xs words → words ≡ xs
mix_same xs words c = c.1 ∙ picked_one c.0 xs

-- The live words of what a cut may leave are words that a cut can leave.
pub cut_live : (m m' : Words) → CutOf m m' → Cut m m'.live
cut_live m m' c = (c.0, ap (λ (x : Words). x.live) c.2)

pub length_applied : (w : List ℕ) (ss : List Store) → length (applied w ss) ≡ length w
length_applied w [] = refl
length_applied w (s ∷ ss) = length_applied (set w s.at s.word) ss ∙ length-set w s.at s.word

-- A word that no store goes to stays.
pub applied_spared : (w : List ℕ) (ss : List Store) (i : ℕ) → Spared i ss → get_or (applied w ss) i 0 ≡ get_or w i 0
applied_spared w [] i h = refl
applied_spared w (s ∷ ss) i h =
    applied_spared (set w s.at s.word) ss i h.1 ∙ get_or-set_other w s.at i s.word 0 h.0

-- Stores to one line spare the others.
pub line_spared : (size l : ℕ) (ss : List Store) (i : ℕ) → Lined size l ss → (i / 8 ≡ l → ⊥) → Spared i ss
line_spared size l [] i h n = tt
line_spared size l (s ∷ ss) i h n = ((λ e. n (ap (λ k. k / 8) e ∙ h.1)), line_spared size l ss i h.3 n)

-- The flush of the line settles all that was stored.
pub flush_settles : (size l : ℕ) (w : List ℕ) (ss : List Store) → Lined size l ss → picked (in_line l) (applied w ss) w ≡ applied w ss
flush_settles size l w ss h =
    ext_get_or 0 _ _ (length_picked (in_line l) (applied w ss) w)
    (λ i _. get_or_picked (in_line l) (applied w ss) w (length_applied w ss) i ∙ at i (in_line l i) refl)
  where
    at : (i : ℕ) (b : Bool) → in_line l i ≡ b → cond b (get_or (applied w ss) i 0) (get_or w i 0) ≡ get_or (applied w ss) i 0
    at i true e = refl
    at i false e = sym (applied_spared w ss i (line_spared size l ss i h (eqb-false (i / 8) l e)))

-- After some first stores each word is as before all or as after all.
pub some_stores : (size l : ℕ) (ss : List Store) (n : ℕ) (w : List ℕ) → Lined size l ss
    → (i : ℕ) → (get_or (applied w (take n ss)) i 0 ≡ get_or w i 0) ⊎ (get_or (applied w (take n ss)) i 0 ≡ get_or (applied w ss) i 0)
some_stores size l [] zero w h i = inl refl
some_stores size l [] (suc n) w h i = inl refl
some_stores size l (s ∷ ss) zero w h i = inl refl
some_stores size l (s ∷ ss) (suc n) w h i =
    let w' : List ℕ = set w s.at s.word in
    ⊎_elim
    (λ e. ⊎_elim
    (λ same. inr (e ∙ sym (applied_spared w' ss i (rw same h.2))))
    (λ other. inl (e ∙ get_or-set_other w s.at i s.word 0 other))
    (cases_eq i s.at))
    inr
    (some_stores size l ss n w' h.3 i)

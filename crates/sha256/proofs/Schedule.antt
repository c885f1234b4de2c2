-- The message schedule as a window of sixteen words that moves on by one with each round.
-- Assumes nothing.
use Rattle.std.proofs.Common.{◌≡◌, ℕ, zero, suc, ◌+◌, ◌-◌, ◌<◌, ◌≤◌, List, [], ◌∷◌, ◌++◌, length, get_or, drop, refl, ap, ◌∙◌, suc-add, zero-add, add-one, arith}
use Rattle.std.proofs.lemmas.Simd.{pick_l-range_with_len}
use Rattle.std.proofs.lemmas.List.{length-append, length-drop, get_or-drop, get_or_append_left, drop-append-le, drop-drop, take_all}
use Rattle.sha256.specs.Constants.{constants}
use Rattle.sha256.specs.Sha256.{◌⊞◌, σ₀, σ₁, extended, schedule, round, rounds}
use Rattle.sha256.specs.Stages.{window, advanced, Underway}

pub schedule_length : (n : ℕ) (block : List ℕ) → length block ≡ 16 → length (schedule n block) ≡ n + 16
unfolding schedule extended
schedule_length zero block h = h
schedule_length (suc n) block h = simp length-append (omega (arith, schedule_length n block h))

-- a word of the schedule stays as more are added
pub schedule_stays : (k n : ℕ) (block : List ℕ) (i : ℕ) → length block ≡ 16 → i < n + 16 → get_or (schedule (k + n) block) i 0 ≡ get_or (schedule n block) i 0
unfolding schedule extended
schedule_stays zero n block i h l = rw zero-add
schedule_stays (suc k) n block i h l =
    let within : i < length (schedule (k + n) block) = omega (arith, schedule_length (k + n) block h) in
    rw (suc-add, get_or_append_left) (schedule_stays k n block i h l)

-- sixteen words, moved on by one
advanced_is : (w : List ℕ) → length w ≡ 16 → advanced w ≡ drop 1 w ++ (σ₁ (get_or w 14 0) ⊞ get_or w 9 0 ⊞ σ₀ (get_or w 1 0) ⊞ get_or w 0 0) ∷ []
unfolding advanced
advanced_is w h =
    ap (λ x. x ++ (σ₁ (get_or w 14 0) ⊞ get_or w 9 0 ⊞ σ₀ (get_or w 1 0) ⊞ get_or w 0 0) ∷ [])
    (pick_l-range_with_len 0 w 1 15 (omega arith) ∙ take_all 15 (drop 1 w) (simp length-drop (omega arith)))

pub window_length : (t : ℕ) (block : List ℕ) → length block ≡ 16 → length (window t block) ≡ 16
unfolding window
window_length t block h = simp length-drop (omega (arith, schedule_length t block h))

schedule_more : (t : ℕ) (block : List ℕ) → schedule (t + 1) block ≡ extended (t + 16) (schedule t block)
unfolding schedule
schedule_more t block = rw add-one

pub window_more : (t : ℕ) (block : List ℕ) → length block ≡ 16 → window (t + 1) block ≡ advanced (window t block)
unfolding window extended
window_more t block h =
    let s : List ℕ = schedule t block in
    let n : length s ≡ t + 16 = schedule_length t block h in
    let within : t + 1 ≤ length s = omega arith in
    let e₁ : t + 16 - 2 ≡ t + 14 = omega arith in
    let e₂ : t + 16 - 7 ≡ t + 9 = omega arith in
    let e₃ : t + 16 - 15 ≡ t + 1 = omega arith in
    let e₄ : t + 16 - 16 ≡ t + 0 = omega arith in
    rw (schedule_more, drop-append-le, e₁, e₂, e₃, e₄)
    rw (advanced_is (drop t s) (window_length t block h), drop-drop)
    simp get_or-drop

-- ---- one round and one word on
pub rounds_more : (n : ℕ) (w v : List ℕ) → rounds (n + 1) w v ≡ round (get_or constants n 0) (get_or w n 0) (rounds n w v)
unfolding rounds
rounds_more n w v = rw add-one

pub underway_none : (block h : List ℕ) → length block ≡ 16 → Underway 0 0 block h h block
unfolding rounds window schedule
underway_none block h n = record { sixteen = n; variables = refl; words = refl }

pub underway_more : (t j : ℕ) (block h v w r : List ℕ) → t ≤ 48 → j < 16 → r ≡ round (get_or constants (t + j) 0) (get_or w j 0) v → Underway t j block h v w → Underway t (j + 1) block h r w
unfolding window
underway_more t j block h v w r lt lj er u =
    let k : ℕ = 48 - t in
    let e : k + t ≡ 48 = omega arith in
    let stays : get_or (schedule 48 block) (t + j) 0 ≡ get_or (schedule t block) (t + j) 0 =
    rw e at (schedule_stays k t block (t + j) u.sixteen (omega arith)) in
    let word = get_or-drop t (schedule t block) j 0 in
    let n : t + (j + 1) ≡ t + j + 1 = omega arith in
    let more = rounds_more (t + j) (schedule 48 block) h in
    record { sixteen = u.sixteen; variables = cc; words = u.words }

-- sixteen rounds are done, and the words have moved on by sixteen
pub underway_next : (t : ℕ) (block h v w x : List ℕ) → x ≡ window (t + 16) block → Underway t 16 block h v w → Underway (t + 16) 0 block h v x
underway_next t block h v w x e u =
    let n : t + 16 + 0 ≡ t + 16 = omega arith in
    record { sixteen = u.sixteen; variables = cc; words = e }

-- Loops over a memory: lists by a rule stored and sent, longs sent, sums and fills.
use Rattle.std.proofs.Common.{◌≡◌, ℕ, zero, suc, ◌+◌, ◌-◌, ◌*◌, ◌/◌, ◌%◌, ◌^◌, ◌<◌, ◌≤◌, List, [], ◌∷◌, ◌++◌, length, map, get_or, drop, set, sym, refl, ap, ◌∙◌, append-nil, zero-add, add-one, arith, length-set, drop_of_length-le, drop-cons}
use native.Mathlib.Nat.{mod-add-mod, sub-zero}
use Rattle.std.specs.List.{flat_map}
use lib.Seq.{sets, sets-eq, drop-length}
use Rattle.wire.specs.declared.Output.{Output}
use Rattle.wire.specs.Words.{two, sent_all}
use Rattle.wire.proofs.Laws.{sent_joined}
use Rattle.cases.specs.Memories.{ruled_from, ruled, filled, longs_words, sum_of}

length_ruled : {A : Type 0} (g : ℕ → A) (i n : ℕ) → length (ruled_from g i n) ≡ n
length_ruled g i zero = refl
length_ruled g i (suc n) = ap suc (length_ruled g (i + 1) n)

-- number i, and those after it
ruled_next : {A : Type 0} (g : ℕ → A) (n i : ℕ) → i < n → ruled_from g i (n - i) ≡ g i ∷ ruled_from g (i + 1) (n - (i + 1))
ruled_next g n i h =
    let m : n - i ≡ suc (n - (i + 1)) = omega arith in
    rw m

-- a loop that stores a list by a rule: the numbers from i on are left
pub record Storing {A : Type 0} (g : ℕ → A) (first l : List A) (i : ℕ) : Type 0 where
  pub most : i ≤ length first
  pub size : length l ≡ length first
  pub same : sets l i (ruled_from g i (length first - i)) ≡ ruled g (length first)

-- all of them at first, after each one fewer, and none at the end
pub stores_begin : {A : Type 0} {g : ℕ → A} {l : List A} → Storing g l l 0
stores_begin {A} {g} {l} =
    let k : length (ruled_from g 0 (length l)) ≡ length l = length_ruled g 0 (length l) in
    let z : 0 + length (ruled_from g 0 (length l)) ≡ length l = omega arith in
    record {
      most = omega arith;
      size = refl;
      same = rw sub-zero (sets-eq (ruled g (length l)) l 0 (omega arith) ∙ rw (z, drop-length, append-nil));
    }

pub stores_on : {A : Type 0} {g : ℕ → A} {first l : List A} {i : ℕ} {v : A} → Storing g first l i → i < length l → v ≡ g i → Storing g first (set l i v) (i + 1)
stores_on {A} {g} {first} {l} {i} {v} s h e =
    let k : i < length first = omega arith in
    record {
      most = omega arith;
      size = simp length-set s.size;
      same = rw (e, add-one) (rw (ruled_next g (length first) i k, add-one) at s.same);
    }

pub stores_end : {A : Type 0} {g : ℕ → A} {first l : List A} {i : ℕ} → Storing g first l i → length l ≤ i → l ≡ ruled g (length first)
stores_end {A} {g} {first} {l} {i} s h =
    let k : length first - i ≡ 0 = omega (arith, s.size) in
    rw k at s.same

-- words sent after others
pub sent_append : (o : Output) (xs ys : List ℕ) {p q : Output} → p ≡ sent_all o.out o.at xs → q ≡ sent_all p.out p.at ys → q ≡ sent_all o.out o.at (xs ++ ys)
sent_append o xs ys e f = f ∙ rw (e, sent_joined xs ys o.out o.at)

-- a loop that sends a list: what is left from number i of n on
pub record Sending (rest : ℕ → ℕ → List ℕ) (n : ℕ) (first o : Output) (i : ℕ) : Type 0 where
  pub most : i ≤ n
  pub same : sent_all o.out o.at (rest i (n - i)) ≡ sent_all first.out first.at (rest 0 n)

module _ {rest : ℕ → ℕ → List ℕ} {n : ℕ} {first : Output} where
  pub sends_begin : Sending rest n first first 0
  sends_begin = record { most = omega arith; same = simp sub-zero }

  pub sends_on : (ws : List ℕ) {o p : Output} {i : ℕ} → Sending rest n first o i → i < n
      → rest i (n - i) ≡ ws ++ rest (i + 1) (n - (i + 1)) → p ≡ sent_all o.out o.at ws → Sending rest n first p (i + 1)
  sends_on ws {o} {p} {i} s h e f =
      record {
        most = omega arith;
        same = rw (f, sent_joined ws (rest (i + 1) (n - (i + 1))) o.out o.at) (rw e at s.same);
      }

  pub sends_end : {o : Output} {i : ℕ} → Sending rest n first o i → rest i (n - i) ≡ [] → o ≡ sent_all first.out first.at (rest 0 n)
  sends_end s e = rw e at s.same

-- numbers by a rule
module _ {g : ℕ → ℕ} {n i : ℕ} {first o : Output} (s : Sending (ruled_from g) n first o i) where
  pub numbers_on : {v : ℕ} {p : Output} → i < n → v ≡ g i → p ≡ sent_all o.out o.at (v ∷ []) → Sending (ruled_from g) n first p (i + 1)
  numbers_on {v} h e f = sends_on (v ∷ []) s h (rw e (ruled_next g n i h)) f

  pub numbers_end : n ≤ i → o ≡ sent_all first.out first.at (ruled g n)
  numbers_end h = sends_end s (let k : n - i ≡ 0 = omega arith in rw k)

-- the words of numbers, two for each
pub twos : (xs : List ℕ) → flat_map two xs ≡ longs_words xs
twos [] = refl
twos (x ∷ xs) = ap (λ (ys : List ℕ). x % 2 ^ 32 ∷ x / 2 ^ 32 ∷ ys) (twos xs)

-- a loop that sums a list's numbers modulo 2 ^ 64: those from i on are left
pub record Summing {A : Type 0} (w : A → ℕ) (xs : List A) (s i : ℕ) : Type 0 where
  pub small : s < 2 ^ 64
  pub same : (s + sum_of (map w (drop i xs))) % 2 ^ 64 ≡ sum_of (map w xs) % 2 ^ 64

module _ {A : Type 0} (w : A → ℕ) (xs : List A) where
  pub sums_begin : Summing w xs 0 0
  sums_begin = record { small = omega arith; same = rw zero-add }

  pub sums_on : {s i t : ℕ} (x : A) → Summing w xs s i → i < length xs → x ≡ get_or xs i x → t ≡ (s + w x) % 2 ^ 64 → Summing w xs t (i + 1)
  sums_on {s} {i} {t} x g h e f =
      record { small = omega arith; same = rw (add-one, f) (omega arith) ∙ rw (drop-cons xs i x h, ← e) at g.same }

  pub sums_end : {s i : ℕ} → Summing w xs s i → length xs ≤ i → s ≡ sum_of (map w xs) % 2 ^ 64
  sums_end {s} {i} g h = omega (arith, rw (drop_of_length-le xs {i = i} h) at g.same)

-- numbers as themselves
pub same_numbers : (xs : List ℕ) → map (λ x. x) xs ≡ xs
same_numbers [] = refl
same_numbers (x ∷ xs) = ap (λ (ys : List ℕ). x ∷ ys) (same_numbers xs)

-- a loop that fills a memory: x is the number whose low bits element i takes, but for what is above 2 ^ 64
pub record Filling {A : Type 0} (low : ℕ → A) (f : ℕ) (first l : List A) (x i : ℕ) : Type 0 where
  pub stored : Storing (λ i. low (f + i * 11400714819323198485)) first l i
  pub number : x ≡ (f + i * 11400714819323198485) % 2 ^ 64

module _ {A : Type 0} (low : ℕ → A) (f : ℕ) where
  pub fills_begin : {l : List A} → f < 2 ^ 64 → Filling low f l l f 0
  fills_begin h = record { stored = stores_begin; number = omega arith }

  pub fills_on : {first l : List A} {x i : ℕ} {v : A} → ((x : ℕ) → low (x % 2 ^ 64) ≡ low x) → Filling low f first l x i → i < length l → v ≡ low x
      → Filling low f first (set l i v) ((x + 11400714819323198485) % 2 ^ 64) (i + 1)
  fills_on {first} {l} {x} {i} w s h e =
      let k : f + i * 11400714819323198485 + 11400714819323198485 ≡ f + (i + 1) * 11400714819323198485 = omega arith in
      record {
        stored = stores_on s.stored h (e ∙ ap low s.number ∙ w (f + i * 11400714819323198485));
        number = rw s.number (mod-add-mod (f + i * 11400714819323198485) (2 ^ 64) 11400714819323198485 ∙ rw k);
      }

-- the same list by two rules
ruled_same : {A : Type 0} (g h : ℕ → A) → ((i : ℕ) → g i ≡ h i) → (i n : ℕ) → ruled_from g i n ≡ ruled_from h i n
ruled_same g h e i zero = refl
ruled_same g h e i (suc n) = rw (e i, ruled_same g h e (i + 1) n)

-- a memory filled from a number modulo 2 ^ 64
pub filled_wrapped : {A : Type 0} (low : ℕ → A) → ((x : ℕ) → low (x % 2 ^ 64) ≡ low x) → (f n : ℕ) → filled low (f % 2 ^ 64) n ≡ filled low f n
filled_wrapped low w f n =
    ruled_same (λ i. low (f % 2 ^ 64 + i * 11400714819323198485)) (λ i. low (f + i * 11400714819323198485))
    (λ i. sym (w (f % 2 ^ 64 + i * 11400714819323198485)) ∙ ap low (mod-add-mod f (2 ^ 64) (i * 11400714819323198485)) ∙ w (f + i * 11400714819323198485))
    0 n

-- Laws on what stands in for a plan file that is longer than any plan.
use Prim.Native.Nat.{ℕ, ◌≤◌, ◌<◌}
use mathlib.Core.Bool.{Bool, true, false, ◌&&◌}
use mathlib.Core.List.{List, [], ◌∷◌}
use mathlib.Core.Path.{◌≡◌, refl, sym, ap, ◌∙◌}
use native.Mathlib.Omega.{arith}
use lib.ListN.{length, get_or, take}
use lib.Seq.{get_or-take}
use lib.Dec.{eqb}
use borrow.Author.Tests.{ne_eqb}
use Rattle.records.specs.Base.{all, sum_of}
use Rattle.records.specs.Bytes.{byte_at, be16, be24, be32, known_version}
use Rattle.records.specs.Plan.{step_count, steps_from, steps_end, steps_of, move_total, shaped, plan_check, longest_plan}
use Rattle.records.specs.declared.faults.PlanFault.TheVariants.{Length, Shape}
use Rattle.std.specs.Prelude.{Err}
use Rattle.records.proofs.Laws.Steps.{shape-most, plan-version, plan-length, plan-shape}
use Rattle.files.specs.Long.{Alike}

-- no plan is so long
long-shape : (s : List ℕ) (is : Bool) → shaped (steps_of s) ≡ is → longest_plan < length s → (is && eqb (steps_end s 7 (step_count s)) (length s)) ≡ false
long-shape s false e h = refl
long-shape s true e h = let w = shape-most s e in ne_eqb (steps_end s 7 (step_count s)) (length s) (λ q. omega arith)

-- the version and the length stated are the file's
module _ (file first : List ℕ) (e : take 5 file ≡ take 5 first) where
  byte-first : (i : ℕ) → i < 5 → byte_at first i ≡ byte_at file i
  byte-first i h = sym (get_or-take 5 first i 0 h) ∙ sym (ap (λ (l : List ℕ). byte_at l i) e) ∙ get_or-take 5 file i 0 h

  stated-first : be32 first 1 ≡ be32 file 1
  unfolding be32 be24 be16
  stated-first = simp (byte-first 1 (omega arith), byte-first 2 (omega arith), byte-first 3 (omega arith), byte-first 4 (omega arith))

-- ---- what is lent in its place: 8 bytes that state their own length, or another

told-at-fault : (version : ℕ) → known_version version ≡ true → plan_check (version ∷ 0 ∷ 0 ∷ 0 ∷ 8 ∷ 0 ∷ 0 ∷ 0 ∷ []) ≡ Err Shape
unfolding plan_check be32 be24 be16 shaped steps_of steps_from steps_end move_total sum_of all
told-at-fault version e = rw e refl

untold-at-fault : (version : ℕ) → known_version version ≡ true → plan_check (version ∷ 0 ∷ 0 ∷ 0 ∷ 0 ∷ 0 ∷ 0 ∷ 0 ∷ []) ≡ Err Length
unfolding plan_check be32 be24 be16 shaped steps_of steps_from steps_end move_total sum_of all
untold-at-fault version e = rw e refl

module _ (first : List ℕ) (size version stated : ℕ) (v : version ≡ get_or first 0 0) (t : stated ≡ be32 first 1) (h : longest_plan < size) where
  -- another version is 12, whatever follows it; so only the two that there are matter
  alike : (tail : List ℕ) → 6 ≤ length tail →
      ((file : List ℕ) → take 5 file ≡ take 5 first → length file ≡ size → known_version version ≡ true → plan_check (version ∷ tail) ≡ plan_check file) →
      Alike first size (version ∷ tail)
  alike tail m same = record { same = λ file f l. go file f l (known_version version) refl }
    where
      go : (file : List ℕ) → take 5 file ≡ take 5 first → length file ≡ size → (b : Bool) → known_version version ≡ b → plan_check (version ∷ tail) ≡ plan_check file
      go file f l true k = same file f l k
      go file f l false k =
          sym (plan-version (version ∷ tail) version refl (omega arith) (known_version version) refl k) ∙
          plan-version file version (v ∙ byte-first file first f 0 (omega arith)) (omega arith) (known_version version) refl k

  pub alike-told : stated ≡ size → Alike first size (version ∷ 0 ∷ 0 ∷ 0 ∷ 8 ∷ 0 ∷ 0 ∷ 0 ∷ [])
  alike-told w =
      alike (0 ∷ 0 ∷ 0 ∷ 8 ∷ 0 ∷ 0 ∷ 0 ∷ []) (omega arith)
      (λ file f l k. told-at-fault version k ∙
      plan-shape file version (v ∙ byte-first file first f 0 (omega arith)) (omega arith) (known_version version) refl
      stated (t ∙ stated-first file first f) k
      _ refl (w ∙ sym l) (long-shape file (shaped (steps_of file)) refl (omega arith)))

  pub alike-untold : (stated ≡ size → ⊥) → Alike first size (version ∷ 0 ∷ 0 ∷ 0 ∷ 0 ∷ 0 ∷ 0 ∷ 0 ∷ [])
  alike-untold w =
      alike (0 ∷ 0 ∷ 0 ∷ 0 ∷ 0 ∷ 0 ∷ 0 ∷ []) (omega arith)
      (λ file f l k. untold-at-fault version k ∙
      plan-length file version (v ∙ byte-first file first f 0 (omega arith)) (omega arith) (known_version version) refl
      stated (t ∙ stated-first file first f) k (λ q. w (q ∙ l)))

-- the laws that the proof of `stand_in` rests on
pub ruleset alikes = (alike-told, alike-untold)

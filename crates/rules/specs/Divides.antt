-- Steps divided into smaller ones (02, Job 9).
use Rattle.std.specs.Prelude.{ℕ, Bool, true, ◌&&◌, ◌≡◌, length, leb}
use mathlib.Core.List.{List, [], ◌∷◌, ◌++◌, map, flatten, Permᴰ}
use Rattle.records.specs.Base.{all}
use Rattle.records.specs.Room.{rises}
use Rattle.records.specs.Plan.{Step}

-- the VMs of a step, in its order
abbrev pub vms_in : Step → List ℕ
vms_in step = map (λ move. move.vm) step

-- a piece: a step of at least one move, its VMs rising (01, "The two records": a step lists its moves so)
unfoldable pub is_piece : Step → Bool
is_piece piece = leb 1 (length piece) && rises (vms_in piece)

-- pieces that a step is divided into, however: one piece behind the other, they have the step's moves in some order (a permutation). So each move is
-- in one of them, and in no other
pub record DividesStep (step : Step) (pieces : List Step) : Type 0 where
  pub moves : Permᴰ step (flatten pieces)
  pub each : all is_piece pieces ≡ true

-- steps that others are divided into: each gives way to pieces of its own, in a row. One that stays whole is its only piece
pub data Divides : List Step → List Step → Type 0 where
  none : Divides [] []
  divide : {step : Step} {pieces steps divided : List Step} → DividesStep step pieces → Divides steps divided → Divides (step ∷ steps) (pieces ++ divided)

-- What a plan costs: Entropy's estimate, its equations (6) to (8) (01, "Cost").
use Rattle.std.specs.Prelude.{ℕ, ◌+◌, max, List, [], ◌∷◌}
use Rattle.records.specs.Base.{pick, sum_of}
use Rattle.records.specs.Room.{Room, vm_of, on_node}
use Rattle.records.specs.Plan.{Move, Step}

-- the memory of a move: its VM's, of a launch too; 0 of a shutdown (02, Job 2)
unfoldable pub memory_of : Room → Move → ℕ
memory_of room move = pick (on_node move.to) (vm_of room move.vm).memory 0

-- (8) the cost of a step: the maximum of the memories of its moves
unfoldable pub step_cost : Room → Step → ℕ
step_cost room [] = 0
step_cost room (move ∷ moves) = max (memory_of room move) (step_cost room moves)

-- (7) a move behind steps that cost `before` in all adds that to its memory; (6) the sum of this over all moves of all steps
unfoldable pub cost_from : Room → ℕ → List Step → ℕ
cost_from room before [] = 0
cost_from room before (step ∷ steps) = sum_of (λ move. memory_of room move + before) step + cost_from room (before + step_cost room step) steps

unfoldable pub cost_of : Room → List Step → ℕ
cost_of room steps = cost_from room 0 steps

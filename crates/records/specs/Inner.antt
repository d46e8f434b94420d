-- What inner functions answer, on the way to the definitions of Room and Plan. Nothing here has to be believed.
use Rattle.std.specs.Prelude.{ℕ, zero, suc, ◌+◌, ◌*◌, ◌≤◌, ◌<◌, Bool, true, false, not, ◌&&◌, List, [], ◌∷◌, map, Option, Some, None, Ok, ◌≡◌, length, get_or, set, take, drop, replicate, ltb, leb, eqb}
use Rattle.std.specs.Borrow.{Bor}
use Rattle.records.specs.Base.{pick, all}
use Rattle.records.specs.Bytes.{byte_at}
use Rattle.records.specs.Room.{Room, Vm, vm_row, most_reserve, room_at, cluster_check, IsSound, list_ok, apart, nodes_at, nodes_end, groups_from, groups_end}
use Rattle.records.specs.Plan.{Step, names_sources, steps_from, steps_end, sized, move_total}
use Rattle.records.specs.declared.constraints.Kind.{Kind}
use Rattle.records.specs.declared.constraints.Kind.TheVariants.{Ban, Fence, Spread, Latency, Before}
use Rattle.records.specs.declared.plan.Source.{Source}
use Rattle.records.specs.declared.plan.Source.TheVariants.{Unnamed, Named}

-- rising and below the limit in one pass: `low` is the least that may come next
unfoldable pub rises_from : ℕ → ℕ → List ℕ → Bool
rises_from limit low [] = true
rises_from limit low (x ∷ xs) = pick (ltb x low) false (pick (leb limit x) false (rises_from limit (suc x) xs))

-- what a reader of a list found, if it did: the list and what is behind it; and what is behind it alone
abbrev pub shown : Option (Bor (List ℕ) × Bor (List ℕ)) → Option (List ℕ × List ℕ)
shown None = None
shown (Some found) = Some (found.0.now, found.1.now)

abbrev pub shown_rest : Option (Bor (List ℕ)) → Option (List ℕ)
shown_rest None = None
shown_rest (Some rest) = Some rest.now

-- a list of n elements from a place of what is left: the list and what is behind it, if it lies within and is in order and range
unfoldable pub listed : ℕ → List ℕ → ℕ → ℕ → Option (List ℕ × List ℕ)
listed limit rest first n =
    pick (leb (first + n) (length rest) && list_ok limit (take n (drop first rest))) (Some (take n (drop first rest), drop (first + n) rest)) None

-- each element is below n
pub record Below (n : ℕ) (l : List ℕ) : Type 0 where
  pub each : (i : ℕ) → get_or l i 0 < n

-- no node marked
abbrev pub unmarked : List Bool
unmarked = replicate 64 false

-- none of the nodes is marked; the marks with all of them marked
unfoldable pub unseen_in : List Bool → List ℕ → Bool
unseen_in seen nodes = all (λ d. not (get_or seen d false)) nodes

unfoldable pub marked_in : List Bool → List ℕ → List Bool
marked_in seen [] = seen
marked_in seen (d ∷ ds) = marked_in (set seen d true) ds

-- a group at the front: what is behind it, if it is a sound list of unmarked nodes
unfoldable pub group_at : ℕ → List Bool → List ℕ → Option (List ℕ)
group_at limit seen rest =
    pick (leb (nodes_end rest 0) (length rest) && (list_ok limit (nodes_at rest 0) && unseen_in seen (nodes_at rest 0))) (Some (drop (nodes_end rest 0) rest)) None

-- and it leaves its nodes marked
pub record Grouped (limit : ℕ) (seen : List Bool) (rest : List ℕ) (r : Option (List ℕ)) (after : List Bool) : Type 0 where
  pub is : r ≡ group_at limit seen rest
  pub marks : r ≡ Some (drop (nodes_end rest 0) rest) → after ≡ marked_in seen (nodes_at rest 0)

-- so many groups: what is behind the last one
unfoldable pub groups_read : ℕ → List ℕ → List Bool → ℕ → Option (List ℕ)
groups_read limit rest seen zero = Some rest
groups_read limit rest seen (suc n) =
    pick (leb (nodes_end rest 0) (length rest) && (list_ok limit (nodes_at rest 0) && unseen_in seen (nodes_at rest 0)))
    (groups_read limit (drop (nodes_end rest 0) rest) (marked_in seen (nodes_at rest 0)) n)
    None

-- a sound node list, and a group count with sound groups, to the end
unfoldable pub nodes_ok : ℕ → List ℕ → Bool
nodes_ok limit rest = eqb (nodes_end rest 0) (length rest) && list_ok limit (nodes_at rest 0)

unfoldable pub groups_ok : ℕ → List ℕ → Bool
groups_ok limit rest =
    eqb (groups_end rest 1 (byte_at rest 0)) (length rest) &&
    (leb (byte_at rest 0) 64 && (all (list_ok limit) (groups_from rest 1 (byte_at rest 0)) && apart (groups_from rest 1 (byte_at rest 0))))

-- a kind's number
abbrev pub kind_number : Kind → ℕ
kind_number Ban = 1
kind_number Fence = 2
kind_number Spread = 3
kind_number Latency = 4
kind_number Before = 5

-- what a kind asks for behind the VM list; one that has two VMs in its place has nothing there that would do
unfoldable pub others_ok : ℕ → Kind → List ℕ → Bool
others_ok limit Ban rest = nodes_ok limit rest
others_ok limit Fence rest = nodes_ok limit rest
others_ok limit Spread rest = eqb 0 (length rest)
others_ok limit Latency rest = groups_ok limit rest
others_ok limit Before rest = false

-- two VMs, different ones of v, and nothing behind them
unfoldable pub pair_ok : ℕ → List ℕ → Bool
pair_ok v rest = eqb 2 (length rest) && (ltb (byte_at rest 0) v && (ltb (byte_at rest 1) v && not (eqb (byte_at rest 0) (byte_at rest 1))))

-- so many steps from a place, behind so many moves: counts in their ranges, and they fill the record
unfoldable pub steps_ok : List ℕ → ℕ → ℕ → ℕ → Bool
steps_ok s at n moves =
    all sized (steps_from s at n) && (leb (moves + move_total (steps_from s at n)) 1024 && eqb (steps_end s at n) (length s))

-- a source is named; every move of a step names its own
unfoldable pub tells_source : Source → Bool
tells_source Unnamed = false
tells_source (Named node) = true

unfoldable pub tells_sources : Step → Bool
tells_sources step = all (λ move. tells_source move.source) step

-- the moves of a step suit a version: every one names its source if the version does, and else none
unfoldable pub suits_source : Bool → Source → Bool
suits_source names source = pick names (tells_source source) (not (tells_source source))

unfoldable pub suits : ℕ → Step → Bool
suits version step = all (λ move. suits_source (names_sources version) move.source) step

-- the VMs of rows that are cut apart
unfoldable pub row_vms : List (List ℕ) → List Vm
row_vms rows = map (λ row. vm_row row 0) rows

-- ---- what the fields of a view stand for

-- a cluster record that was read, at a reserve
pub record WasRead (reserve : ℕ) (s : List ℕ) : Type 0 where
  pub reserve-most : reserve ≤ most_reserve
  pub whole : cluster_check s ≡ Ok tt
  pub sound : IsSound (room_at reserve s)

-- where the current place of VM v stands in a record of so many nodes
abbrev pub current_in : Room → ℕ → ℕ
current_in room v = 11 + length room.nodes * 5 + v * 7 + 5

-- ---- where a walk over an undamaged record stands

-- the last n steps start at a place; where there are none, the record may end before it
pub record Steps (s : List ℕ) (at n : ℕ) : Type 0 where
  pub ends : 0 < n → steps_end s at n ≡ length s
  pub counts : all sized (steps_from s at n) ≡ true
  pub total : move_total (steps_from s at n) ≤ 1024

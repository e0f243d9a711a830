-- The items of pods one after another, and of all pods and elements in them: docs/FORMAT.md, "Items".
use Rattle.std.specs.Prelude.{ℕ, zero, suc, ◌+◌, Bool, true, false, List, [], ◌∷◌, ◌++◌, length, drop, if◌then◌else◌}
use Rattle.spa_events.specs.Inside.{key_size}
use Rattle.spa_events.specs.Events.{is_object, is_struct}
use Rattle.spa_format.specs.Walk.{walk_behind}
use Rattle.spa_format.specs.Words.{body_of, header_size, word_at}
use Rattle.spa_items.specs.Contents.{elements, pod_item}
use Rattle.spa_items.specs.declared.item.Item.{Item}

-- the item of a pod with the key and flags before it, if there are any, which begin at the byte `at`
abbrev pub head : (keyed : Bool) → (depth at : ℕ) → List ℕ → Item
head keyed depth at p =
    let pod = drop (key_size keyed) p in
    let start = at + key_size keyed in
    pod_item (if keyed then word_at p 0 else 0) (if keyed then word_at p 4 else 0) (word_at pod 4) depth start (start + header_size) (body_of pod)

-- The items of pods one after another, the first of which begins at the byte `at`. The function gives those of one pod, by the byte at which it
-- begins and the pod.
abbrev pub items_along : (ℕ → List ℕ → List Item) → ℕ → List (List ℕ) → List Item
items_along read at [] = []
items_along read at (p ∷ ps) = read at p ++ items_along read (at + length p) ps

-- The items in a pod whose body begins at this byte: those of the members of a struct, of the properties of an object, or else of the elements.
abbrev pub items_inside : (Bool → ℕ → List ℕ → List Item) → (type depth at : ℕ) → List ℕ → List Item
items_inside read type depth at b =
    if is_struct type then items_along (read false) at (walk_behind 0 b)
    else (if is_object type (length b) then items_along (read true) (at + header_size) (walk_behind header_size (drop header_size b))
    else elements type depth at b)

-- the items of a pod, with key and flags where it is a property's, and of all pods and elements in it, down to this nesting depth
unfoldable pub items_within : (levels depth : ℕ) → Bool → ℕ → List ℕ → List Item
items_within zero depth keyed at p = []
items_within (suc n) depth keyed at p =
    let pod = drop (key_size keyed) p in
    head keyed depth at p
    ∷ items_inside (items_within n (depth + 1)) (word_at pod 4) (depth + 1) (at + key_size keyed + header_size) (body_of pod)

-- the items of the pods one after another in these bytes
abbrev pub items_in : (levels depth : ℕ) → Bool → ℕ → List ℕ → List Item
items_in levels depth keyed at b = items_along (items_within levels depth keyed) at (walk_behind (key_size keyed) b)

-- The items of an input: of the pods of which it consists, each before those of the pods in it. There are no more levels than bytes.
unfoldable pub items_of : List ℕ → List Item
items_of input = items_in (length input) 0 false 0 input

-- the list with its first items replaced by these, as far as it is long
abbrev pub overlaid : List Item → List Item → List Item
overlaid [] old = old
overlaid (x ∷ xs) [] = []
overlaid (x ∷ xs) (o ∷ os) = x ∷ overlaid xs os

-- Items that are written from an index of an output on.
use Rattle.std.specs.Prelude.{◌≡◌, ℕ, zero, suc, ◌+◌, ◌-◌, ◌≤◌, Bool, List, [], ◌∷◌, ◌++◌, length, take, drop, if◌then◌else◌, Option, Some, None}
use Rattle.spa_events.specs.Inside.{key_size}
use Rattle.spa_format.specs.Words.{body_of, header_size, word_at}
use Rattle.spa_format.specs.Walk.{extent_behind}
use Rattle.spa_items.specs.Contents.{before_values, element_count, pod_item, values_of, word_or}
use Rattle.spa_items.specs.Items.{items_in, items_within, overlaid}
use Rattle.spa_items.specs.declared.elements.Elements.{Elements}
use Rattle.spa_items.specs.declared.item.Item.{Item}
use Rattle.spa_items.specs.declared.listing.First.{First}
use Rattle.spa_items.specs.declared.listing.Level.{Level}
use Rattle.spa_items.specs.declared.listing.Listed.{Listed}

-- the list with its items from this index on replaced by these, as far as it is long
abbrev pub put_from : ℕ → List Item → List Item → List Item
put_from zero xs old = overlaid xs old
put_from (suc n) xs [] = []
put_from (suc n) xs (o ∷ os) = o ∷ put_from n xs os

-- the items were written from the index `place` on, and `behind` is the index behind them
pub record ArePut (place : ℕ) (xs old : List Item) (behind : ℕ) (new : List Item) : Type 0 where
  pub counted : behind ≡ place + length xs
  pub written : new ≡ put_from place xs old

-- the first pod of these bytes, with the key and the flags before it
abbrev pub first_of : Bool → List ℕ → List ℕ
first_of keyed b = take (extent_behind (key_size keyed) b) b

-- the first pod is there, and these are its parts
pub record IsFirst (keyed : Bool) (b : List ℕ) (first : First) : Type 0 where
  pub there : extent_behind (key_size keyed) b ≤ length b
  pub its_key : first.key ≡ if keyed then word_at (first_of keyed b) 0 else 0
  pub its_flags : first.flags ≡ if keyed then word_at (first_of keyed b) 4 else 0
  pub its_type : first.type_ ≡ word_at (drop (key_size keyed) (first_of keyed b)) 4
  pub its_body : first.body.now ≡ body_of (drop (key_size keyed) (first_of keyed b))
  pub its_rest : first.rest.now ≡ drop (extent_behind (key_size keyed) b) b
  pub fits : length first.body.now + key_size keyed + header_size + length first.rest.now ≤ length b

-- these are the elements of an array, or the values that a choice takes, where the body begins at the byte `at`
pub record AreElements (type at : ℕ) (b : List ℕ) (them : Elements) : Type 0 where
  pub its_type : them.type_ ≡ word_or (values_of type b) 4
  pub its_size : them.size ≡ word_or (values_of type b) 0
  pub its_count : them.count ≡ element_count type b
  pub its_at : them.at ≡ at + before_values type
  pub its_bytes : them.bytes.now ≡ drop header_size (values_of type b)

-- the item of a pod with these parts, whose body begins at this byte
abbrev pub item_of : (depth body_at : ℕ) → First → Item
item_of depth body_at f = pod_item f.key f.flags f.type_ depth (body_at - header_size) body_at f.body.now

-- the items of the pods in a pod that are still to be listed
abbrev pub inner_items : (levels depth : ℕ) → Option Level → List Item
inner_items levels depth None = []
inner_items levels depth (Some l) = items_in levels depth l.keyed l.at l.pods.now

-- the items of the first pod of these bytes were put, but those of the pods in it that are still to be listed
pub record IsFirstListed (levels depth : ℕ) (keyed : Bool) (at : ℕ) (b : List ℕ) (place : ℕ) (old : List Item) (listed : Listed) (new : List Item) :
    Type 0 where
  pub items : List Item
  pub put : ArePut place items old listed.place new
  pub all : items_within levels depth keyed at (first_of keyed b) ≡ items ++ inner_items (levels - 1) (depth + 1) listed.inner

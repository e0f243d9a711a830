-- The items that the iterators still yield: docs/FORMAT.md, "Dictionaries".
use Rattle.std.specs.Prelude.{ℕ, List}
use Rattle.spa_dict.specs.Pairs.{Pair, pairs_of, text_keys, text_pairs, text_values}
use Rattle.spa_dict.specs.declared.iter.CIter.{CIter}
use Rattle.spa_dict.specs.declared.iter.Iter.{Iter}
use Rattle.spa_dict.specs.declared.iter.Keys.{Keys}
use Rattle.spa_dict.specs.declared.iter.Values.{Values}

-- the pairs that are left
abbrev pub pairs_left : CIter → List Pair
pairs_left iter = pairs_of iter.items.now

-- the pairs left whose key and value are texts
abbrev pub text_pairs_left : Iter → List Pair
text_pairs_left iter = text_pairs (pairs_left iter.inner)

-- the keys left that are texts
abbrev pub text_keys_left : Keys → List (List ℕ)
text_keys_left keys = text_keys (pairs_left keys.inner)

-- the values left that are texts
abbrev pub text_values_left : Values → List (List ℕ)
text_values_left values = text_values (pairs_left values.inner)

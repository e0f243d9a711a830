use Rattle.std.proofs.Common.{◌≡◌, ◌++◌, take}
use Rattle.std.specs.List.{flat_map}
use Rattle.spa_format.specs.Words.{word_bytes}
use Rattle.test_bytes.proofs.push_words.Given as goal

-- the bytes of the first words
abbrev pub invariant-loop-word : goal.invariant-loop-word
invariant-loop-word l = l.bytes.items ≡ l.fn.bytes.items ++ flat_map word_bytes (take l.word-index l.words)

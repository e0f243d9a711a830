use Rattle.std.proofs.Common.{rules, ◌≡◌, ◌-◌, ◌%◌, ◌∙◌, ◌++◌, ◌∷◌, [], List, ℕ, arith, ap, drop, length, length-append, length-take, subst, sym, take}
use Rattle.std.proofs.lemmas.List.{take_at}
use Rattle.spa_format.specs.Typed.{IsBytes}
use Rattle.spa_format.specs.Walk.{walk}
use Rattle.spa_format.specs.Words.{padded_size}
use Rattle.spa_format.proofs.WordLemmas.{word_fits}
use Rattle.spa_recordings.specs.Cut.{IsEnded}
use Rattle.spa_recordings.proofs.Ended.{whole_ended}
use Rattle.spa_recordings.proofs.cut.end_cut.Goals as goal

pub returns-clause-whole : goal.returns-clause-whole
returns-clause-whole c =
    let b = c.args.bytes.now.items in
    let new = c.end_padded.new.bytes in
    let vec = c.extend_from_slice.new.self in
    let zeros : List ℕ = 0 ∷ 0 ∷ 0 ∷ 0 ∷ 0 ∷ 0 ∷ 0 ∷ 0 ∷ [] in
    let count = (8 - c.len-there.result % 8) % 8 in
    let slice : c.as_slice.result.now ≡ b = search rules in
    let there : c.len-there.result ≡ length b = search rules in
    let items : vec.items ≡ b ++ take count zeros = c.in_ok-extend_from_slice.ensures.items in
    let its = c.as_mut_slice.ensures.value in
    let stays = c.end_padded.ensures.long in
    let longer = ap length items ∙ length-append b (take count zeros) in
    let few = length-take count zeros in
    let same_len = ap length its in
    let len : vec.len ≡ length vec.items = search rules in
    let same : take vec.len (new ++ drop (length new) vec.items) ≡ new = take_at new (drop (length new) vec.items) vec.len (sym (len ∙ sym (stays ∙ same_len))) in
    let ended : IsEnded b new = subst (λ z. IsEnded z new) (ap (take c.len-there.result) (its ∙ items) ∙ take_at b (take count zeros) c.len-there.result (sym there)) c.end_padded.ensures.ended in
    let long : length new ≡ padded_size (length b) = omega (arith, stays, same_len, longer, few, there) in
    subst (λ z. walk z ≡ z ∷ []) (sym same) (whole_ended b new c.requires.header c.requires.cut (word_fits b 0 (subst IsBytes slice c.are_bytes.ensures)) long ended)

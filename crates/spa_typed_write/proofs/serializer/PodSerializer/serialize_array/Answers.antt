use Rattle.std.proofs.Common.{Some, ap, refl, ◌∙◌, ◌+◌, ◌*◌, ◌++◌, ◌≡◌, arith}
use Rattle.spa_format.specs.Tree.{array_type}
use Rattle.spa_format.specs.Words.{header_size, word_bytes}
use Rattle.spa_format.proofs.Encodings.{two_words_length}
use Rattle.spa_typed_write.proofs.OpenArrays.{array_begun_at, array_begun_is}
use Rattle.spa_typed_write.proofs.serializer.PodSerializer.serialize_array.Given.{Over}
use Rattle.spa_typed_write.proofs.serializer.PodSerializer.serialize_array.Goals as goal

size : (g : Over) → (c : goal.In_ok-append g) →
    c.in-Ok.size ≡ header_size + c.args.length * g.P.CanonicalType.CanonicalFixedSizedPod.SIZE
size g c = rw (c.in-Ok.ensures.1, c.from.ensures, c.SIZE.ensures) refl

-- the headers that are appended
headers : (g : Over) → (c : goal.In_ok-append g) →
    g.O.PodOutput.content c.append.new.self ≡
    g.O.PodOutput.content c.self.inside.out ++
    ((word_bytes (header_size + c.args.length * g.P.CanonicalType.CanonicalFixedSizedPod.SIZE) ++ word_bytes array_type) ++
    (word_bytes g.P.CanonicalType.CanonicalFixedSizedPod.SIZE ++ word_bytes g.P.CanonicalType.CanonicalFixedSizedPod.TYPE))
headers g c =
    g.met.O.PodOutput.content_appends _ _ _ c.in_ok-append.ensures.ok
    ∙ ap (λ l. g.O.PodOutput.content c.self.inside.out ++ l)
    (rw (c.joined.ensures, c.two_words.ensures, c.two_words-child.ensures, size g c, c.SIZE-2.ensures, c.TYPE.ensures) refl)

pub invariant_of-result : goal.invariant_of-result
invariant_of-result g c =
    rw c.len-start.ensures
    (array_begun_is _ _ _ _ _ (two_words_length _ _) (omega (arith, size g c, c.in-Ok.ensures.0)) (headers g c))

pub returns-clause-begun : goal.returns-clause-begun
returns-clause-begun g c =
    rw (c.len-start.ensures, ← c.self.view_is)
    (ap Some (array_begun_at c.args.length _ _ _ _ (two_words_length _ _) (headers g c)))

use Rattle.std.proofs.Common.{◌++◌, ◌∙◌, refl, arith, ap}
use Rattle.spa_format.specs.Encoding.{member_encodings}
use Rattle.spa_format.specs.Tree.{struct_type}
use Rattle.spa_format.specs.Typed.{IsBytes}
use Rattle.spa_format.proofs.Encodings.{whole_members}
use Rattle.spa_lenient.proofs.InPlace.{members_shorter}
use Rattle.spa_lenient.proofs.Structs.{behind_header}
use Rattle.spa_lenient.proofs.rewriting.append_struct_of.Goals as goal

pub unreachable-requires : goal.unreachable-requires
unreachable-requires c =
    let a = c.if-not-append_members.ensures.appended refl in
    let head = c.in-Ok.ensures.items ∙ ap (λ l. c.args.out.now.items ++ l) c.two_words-header.ensures in
    let past = c.in_default-close.ensures.past c.args.out.now struct_type (member_encodings a.0) (record {
      place = (let e = c.len-start.ensures in omega arith);
      inside = record { bytes = behind_header _ _ _ _ _ head a.2; room = λ a n e r. r };
    }) in
    let bytes : IsBytes c.args.body.now = λ i. omega (arith, c.type_inv.body i) in
    let short = members_shorter a.0 c.args.body.now bytes a.1 in
    let fits = c.requires in
    omega (arith, past, short, fits)

pub returns-clause-appended : goal.returns-clause-appended
returns-clause-appended c = λ _.
    let a = c.if-not-append_members.ensures.appended refl in
    let head = c.in-Ok.ensures.items ∙ ap (λ l. c.args.out.now.items ++ l) c.two_words-header.ensures in (
      a.0,
      a.1,
      (c.in-Ok-close.ensures.pod c.args.out.now struct_type (member_encodings a.0) (record {
        place = (let e = c.len-start.ensures in omega arith);
        inside = record { bytes = behind_header _ _ _ _ _ head a.2; room = λ a n e r. r };
      }) (whole_members a.0)).bytes,
    )

use Rattle.std.proofs.Common.{◌≡◌, ◌≢◌, arith, refl, rules, subst, sym}
use Rattle.std.specs.Prelude.{IfErr}
use Rattle.spa_format.specs.Faults.{no_type}
use Rattle.spa_format.specs.Kind.{Kind, bool_kind, double_kind, fd_kind, float_kind, fraction_kind, id_kind, int_kind, long_kind, none_kind, rectangle_kind, type_number}
use Rattle.spa_format.specs.Tree.{bitmap, bytes}
use Rattle.spa_format.proofs.FixedKinds.{size_fits}
use Rattle.spa_canonical.specs.Look.{IsNoLeafBody}
use Rattle.spa_canonical.proofs.Leaves.{own_leaf}
use Rattle.spa_canonical.proofs.Parts.{text_body_of}
use Rattle.spa_canonical.proofs.body.other_body.Goals as goal

pub returns-in-String-clause-there : goal.returns-in-String-clause-there
returns-in-String-clause-there c =
    own_leaf _ _ _ (text_body_of _ _ (let e : c.args.type_ ≡ 8 = search rules in e) (c.is_text.ensures.canonical c.if-is_text.true))

pub returns-in-Bytes-clause-there : goal.returns-in-Bytes-clause-there
returns-in-Bytes-clause-there c =
    own_leaf _ _ _ (record { value = bytes c.args.body.now; its_type = sym (let e : c.args.type_ ≡ 9 = search rules in e); its_body = refl; same = refl })

pub returns-in-Bitmap-clause-there : goal.returns-in-Bitmap-clause-there
returns-in-Bitmap-clause-there c =
    own_leaf _ _ _ (record { value = bitmap c.args.body.now; its_type = sym (let e : c.args.type_ ≡ 12 = search rules in e); its_body = refl; same = refl })

pub returns-in-Pointer-clause-none : goal.returns-in-Pointer-clause-none
returns-in-Pointer-clause-none c =
    let e : c.args.type_ ≡ 17 = search rules in
    subst (λ t. IfErr c.pointer_body.result (IsNoLeafBody c.args.canonical t c.args.body.now)) (sym e) c.pointer_body.ensures.none

pub returns-in_default-clause-none : goal.returns-in_default-clause-none
returns-in_default-clause-none c =
    let other : (k : Kind) → c.args.type_ ≢ type_number k = λ k e. let a = c.fixed_len-len.ensures.found k e in let b = size_fits k in omega arith in
    let n0 = other none_kind in
    let n1 = other bool_kind in
    let n2 = other id_kind in
    let n3 = other int_kind in
    let n4 = other long_kind in
    let n5 = other float_kind in
    let n6 = other double_kind in
    let n7 = other rectangle_kind in
    let n8 = other fraction_kind in
    let n9 = other fd_kind in
    no_type (search rules)

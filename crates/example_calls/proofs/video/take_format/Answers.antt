use Rattle.std.proofs.Common.{refl}
use Rattle.libspa.specs.Kind.{fraction, id, rectangle}
use Rattle.libspa.specs.Tree.{fixed}
use Rattle.spa_names.specs.declared.ids.TheConstants.{PARAM_FORMAT}
use Rattle.spa_names.specs.declared.types.TheConstants.{OBJECT_FORMAT}
use Rattle.example_calls.specs.Video.{format_properties}
use Rattle.example_calls.proofs.Reading.{same_format}
use Rattle.example_calls.proofs.video.take_format.Goals as goal

pub returns : goal.returns
returns c f next =
    let ps = format_properties f in
    let p = c.in-Ok-parser_get.ensures.accepted 4 ps next in
    let n1 = c.in-Ok-parser_get-2.ensures.accepted OBJECT_FORMAT PARAM_FORMAT ps (fixed (id f.layout.0)) p refl in
    let v1 = c.in-Ok-parser_get-3.ensures.accepted f.layout.0 n1 in
    let n2 = c.in-Ok-parser_get-4.ensures.accepted OBJECT_FORMAT PARAM_FORMAT ps (fixed (rectangle f.size.width f.size.height)) p refl in
    let v2 = c.in-Ok-parser_get-5.ensures.accepted f.size.width f.size.height n2 in
    let n3 = c.in-Ok-parser_get-6.ensures.accepted OBJECT_FORMAT PARAM_FORMAT ps (fixed (fraction f.rate.num f.rate.denom)) p refl in
    let v3 = c.in-Ok-parser_get-7.ensures.accepted f.rate.num f.rate.denom n3 in
    (refl, same_format _ _ _ f v1 v2 v3)

pub returns-2 : goal.returns-2
returns-2 c f next =
    let ps = format_properties f in
    let p = c.in-Ok-parser_get.ensures.accepted 4 ps next in
    let n1 = c.in-Ok-parser_get-2.ensures.accepted OBJECT_FORMAT PARAM_FORMAT ps (fixed (id f.layout.0)) p refl in
    let v1 = c.in-Ok-parser_get-3.ensures.accepted f.layout.0 n1 in
    let n2 = c.in-Ok-parser_get-4.ensures.accepted OBJECT_FORMAT PARAM_FORMAT ps (fixed (rectangle f.size.width f.size.height)) p refl in
    let v2 = c.in-Ok-parser_get-5.ensures.accepted f.size.width f.size.height n2 in
    let n3 = c.in-Ok-parser_get-6.ensures.accepted OBJECT_FORMAT PARAM_FORMAT ps (fixed (fraction f.rate.num f.rate.denom)) p refl in
    absurd (c.in-Err-parser_get-7.ensures.accepted f.rate.num f.rate.denom n3)

pub returns-3 : goal.returns-3
returns-3 c f next =
    let ps = format_properties f in
    let p = c.in-Ok-parser_get.ensures.accepted 4 ps next in
    let n1 = c.in-Ok-parser_get-2.ensures.accepted OBJECT_FORMAT PARAM_FORMAT ps (fixed (id f.layout.0)) p refl in
    let v1 = c.in-Ok-parser_get-3.ensures.accepted f.layout.0 n1 in
    let n2 = c.in-Ok-parser_get-4.ensures.accepted OBJECT_FORMAT PARAM_FORMAT ps (fixed (rectangle f.size.width f.size.height)) p refl in
    let v2 = c.in-Ok-parser_get-5.ensures.accepted f.size.width f.size.height n2 in
    absurd (c.in-Err-parser_get-6.ensures.accepted OBJECT_FORMAT PARAM_FORMAT ps (fixed (fraction f.rate.num f.rate.denom)) p refl)

pub returns-4 : goal.returns-4
returns-4 c f next =
    let ps = format_properties f in
    let p = c.in-Ok-parser_get.ensures.accepted 4 ps next in
    let n1 = c.in-Ok-parser_get-2.ensures.accepted OBJECT_FORMAT PARAM_FORMAT ps (fixed (id f.layout.0)) p refl in
    let v1 = c.in-Ok-parser_get-3.ensures.accepted f.layout.0 n1 in
    let n2 = c.in-Ok-parser_get-4.ensures.accepted OBJECT_FORMAT PARAM_FORMAT ps (fixed (rectangle f.size.width f.size.height)) p refl in
    absurd (c.in-Err-parser_get-5.ensures.accepted f.size.width f.size.height n2)

pub returns-5 : goal.returns-5
returns-5 c f next =
    let ps = format_properties f in
    let p = c.in-Ok-parser_get.ensures.accepted 4 ps next in
    let n1 = c.in-Ok-parser_get-2.ensures.accepted OBJECT_FORMAT PARAM_FORMAT ps (fixed (id f.layout.0)) p refl in
    let v1 = c.in-Ok-parser_get-3.ensures.accepted f.layout.0 n1 in
    absurd (c.in-Err-parser_get-4.ensures.accepted OBJECT_FORMAT PARAM_FORMAT ps (fixed (rectangle f.size.width f.size.height)) p refl)

pub returns-6 : goal.returns-6
returns-6 c f next =
    let ps = format_properties f in
    let p = c.in-Ok-parser_get.ensures.accepted 4 ps next in
    let n1 = c.in-Ok-parser_get-2.ensures.accepted OBJECT_FORMAT PARAM_FORMAT ps (fixed (id f.layout.0)) p refl in
    absurd (c.in-Err-parser_get-3.ensures.accepted f.layout.0 n1)

pub returns-7 : goal.returns-7
returns-7 c f next =
    let ps = format_properties f in
    let p = c.in-Ok-parser_get.ensures.accepted 4 ps next in
    absurd (c.in-Err-parser_get-2.ensures.accepted OBJECT_FORMAT PARAM_FORMAT ps (fixed (id f.layout.0)) p refl)

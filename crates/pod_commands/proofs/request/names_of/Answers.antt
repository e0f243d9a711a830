use Rattle.std.proofs.Common.{◌≡◌, ◌∙◌, ◌++◌, [], ap, arith, codes, length, refl, sym}
use Rattle.std.specs.Prelude.{unwrap_or}
use Rattle.clap.specs.Walk.{rows_of, texts}
use Rattle.clap.specs.Words.{all_of, found_of}
use Rattle.clap.proofs.WalkLemmas.{raw_values-rows}
use Rattle.pod_commands.specs.Requests.{or_input}
use Rattle.pod_commands.proofs.Requested.{all_names, no_names, pushed, some_names}
use Rattle.pod_commands.proofs.request.names_of.Goals as goal

pub returns-then-is_empty : goal.returns-then-is_empty
returns-then-is_empty c =
    let xs = c.unwrap_or-given.result.now in
    let all : texts xs ≡ unwrap_or (all_of (codes "FILE") (rows_of (found_of c.args.given.now))) [] =
    ap (λ s. texts s.now) c.unwrap_or-given.ensures ∙ all_names c.get_strs.result _ refl
    ∙ ap (λ r. unwrap_or r []) (c.get_strs.ensures ∙ raw_values-rows (found_of c.args.given.now) (codes "FILE")) in
    let none : length xs ≡ 0 = grind (arith, c.if-is_empty.true, c.is_empty.ensures) in
    pushed _ _ _ c.new-names.ensures.items c.in_ok-push.ensures.items ∙ sym (sym (ap or_input all) ∙ no_names xs none)

pub returns : goal.returns
returns c =
    let xs = c.unwrap_or-given.result.now in
    let all : texts xs ≡ unwrap_or (all_of (codes "FILE") (rows_of (found_of c.args.given.now))) [] =
    ap (λ s. texts s.now) c.unwrap_or-given.ensures ∙ all_names c.get_strs.result _ refl
    ∙ ap (λ r. unwrap_or r []) (c.get_strs.ensures ∙ raw_values-rows (found_of c.args.given.now) (codes "FILE")) in
    ap texts (c.in_ok-extend_from_slice.ensures.items ∙ ap (λ l. l ++ xs) c.new-names.ensures.items)
    ∙ sym (some_names xs (λ e. grind (arith, e, c.if-is_empty.false, c.is_empty.ensures))) ∙ ap or_input all

use Rattle.std.proofs.Common.{◌∙◌, ◌<◌, ℕ, arith, length, rules, subst, sym, tests, true≢false}
use Rattle.std.specs.Bool.{MatchBool}
use Rattle.std.specs.List.{AllWithin, HoldsAt}
use Rattle.std.proofs.lemmas.Iterator.{cases_from_all}
use Rattle.std.proofs.lemmas.Iterator.Search.{true_from_All}
use Rattle.std.proofs.lemmas.Iterator.Splits.{YieldsList-from_str_split}
use Rattle.std.proofs.lemmas.List.Elements.{All-from_all_within}
use Rattle.spa_text_commands.specs.Naming.{IsName}
use Rattle.spa_text_commands.specs.Selection.{names_in}
use Rattle.spa_text_commands.proofs.naming.are_names.Goals as goal

pub returns : goal.returns
returns c =
    let Is = IsName c.args.named in
    let names = names_in c.args.names.now in
    let split = c.split.ensures in
    let tested : MatchBool c.all.result (AllWithin Is names 0 (length names)) ((k : ℕ) × (k < length names) × HoldsAt (λ name. ¬ (Is name)) names k) =
    cases_from_all _ _ c.all.result Is (λ name. ¬ (Is name)) c.all.ensures.ran
    (YieldsList-from_str_split 44 c.args.names.now (omega arith) split.text split.has_more split.pattern) (λ x q k. search (rules, tests))
    (λ x q k. search (rules, tests)) in
    record {
      named = λ t. All-from_all_within Is names
          (subst (λ b. MatchBool b (AllWithin Is names 0 (length names)) ((k : ℕ) × (k < length names) × HoldsAt (λ name. ¬ (Is name)) names k)) t tested);
      other = λ f all. true≢false (sym (true_from_All Is (λ name. ¬ (Is name)) c.all.result names (λ x is not. not is) tested all) ∙ f);
    }

use Rattle.std.proofs.Common.{◌∙◌, ap₂, codes, inl, inr, subst}
use Rattle.clap.specs.Words.{found_of}
use Rattle.clap.proofs.WalkLemmas.{first_value-rows}
use Rattle.spa_text_commands.specs.declared.naming.Named.TheVariants.{Types, Ids, Keys}
use Rattle.pod_commands.specs.Requests.{AreNamesOf, HasNoNumber, HasNoPath, HasUnknownName, IsNumber, number_given, text_of}
use Rattle.pod_commands.proofs.request.selection_of.Goals as goal

pub returns-in-Err-clause-unknown : goal.returns-in-Err-clause-unknown
returns-in-Err-clause-unknown c =
    let found = found_of c.args.given.now in
    inl (elim c.in-Err.ensures.unknown [
      | inl h ↦ inl (subst (λ given. HasNoNumber given c.in-Err.why) (c.get_str.ensures ∙ first_value-rows found (codes "nth")) h)
      | inr h ↦ inr (subst (λ given. HasNoPath given c.in-Err.why) (c.get_str-path.ensures ∙ first_value-rows found (codes "PATH")) h)
    ])

pub returns-in-Err-names_given-clause-unknown : goal.returns-in-Err-names_given-clause-unknown
returns-in-Err-names_given-clause-unknown c =
    inr (inl (subst (λ given. HasUnknownName Keys given c.in-Err-names_given.why)
    (c.get_str-2.ensures ∙ first_value-rows (found_of c.args.given.now) (codes "key")) c.in-Err-names_given.ensures.unknown))

pub returns-in-Err-names_given-2-clause-unknown : goal.returns-in-Err-names_given-2-clause-unknown
returns-in-Err-names_given-2-clause-unknown c =
    inr (inr (inl (subst (λ given. HasUnknownName Types given c.in-Err-names_given-2.why)
    (c.get_str-3.ensures ∙ first_value-rows (found_of c.args.given.now) (codes "type")) c.in-Err-names_given-2.ensures.unknown)))

pub returns-in-Err-names_given-3-clause-unknown : goal.returns-in-Err-names_given-3-clause-unknown
returns-in-Err-names_given-3-clause-unknown c =
    inr (inr (inr (subst (λ given. HasUnknownName Ids given c.in-Err-names_given-3.why)
    (c.get_str-4.ensures ∙ first_value-rows (found_of c.args.given.now) (codes "id")) c.in-Err-names_given-3.ensures.unknown)))

pub returns-clause-given : goal.returns-clause-given
returns-clause-given c =
    let found = found_of c.args.given.now in
    record {
      nth = subst (λ t. IsNumber t c.in-Ok.nth)
          (ap₂ number_given (c.get_str-path.ensures ∙ first_value-rows found (codes "PATH")) (c.get_str.ensures ∙ first_value-rows found (codes "nth")))
          c.in-Ok.ensures.number;
      path = c.get_str-path.ensures ∙ first_value-rows found (codes "PATH");
      key = subst (λ given. AreNamesOf Keys given (text_of c.in-Ok-names_given.key)) (c.get_str-2.ensures ∙ first_value-rows found (codes "key"))
          c.in-Ok-names_given.ensures.names;
      type_ = subst (λ given. AreNamesOf Types given (text_of c.in-Ok-names_given-2.type_)) (c.get_str-3.ensures ∙ first_value-rows found (codes "type"))
          c.in-Ok-names_given-2.ensures.names;
      id = subst (λ given. AreNamesOf Ids given (text_of c.in-Ok-names_given-3.id)) (c.get_str-4.ensures ∙ first_value-rows found (codes "id"))
          c.in-Ok-names_given-3.ensures.names;
    }

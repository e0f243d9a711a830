use Rattle.std.proofs.Common.{◌≡◌, ◌∙◌, ap, codes, inl, inr, refl, subst, Some}
use Rattle.clap.specs.Kinds.{HasKind}
use Rattle.clap.specs.Faults.{fault_of}
use Rattle.clap.specs.Walk.{rows_of, texts}
use Rattle.clap.specs.Words.{app_of, found_of, subcommand_of}
use Rattle.clap.proofs.WalkLemmas.{first_value-rows}
use Rattle.pod_commands.specs.Program.{program}
use Rattle.pod_commands.specs.Requests.{HasFlags, HasManner, HasStream}
use Rattle.pod_commands.proofs.Requested.{fault_is, found_is, has_dump, has_texts, no_fault, one_name}
use Rattle.spa_bytes.proofs.Passing.{passed_on}
use Rattle.pod_commands.proofs.request.request_of.Goals as goal

pub returns-in_err-matches-clause-refused : goal.returns-in_err-matches-clause-refused
returns-in_err-matches-clause-refused c =
    passed_on c.from_residual-in_err-matches.result c.in_err-matches.field-0.0 (HasKind (fault_of program (texts c.args.words.now))) c.from_residual-in_err-matches.ensures.1
    (fault_is _ (texts c.args.words.now) c.in_err-matches.field-0.0 c.in_ok-command.ensures c.in_err-matches.ensures.kinds)

pub returns-in_default-word_of-clause-nothing : goal.returns-in_default-word_of-clause-nothing
returns-in_default-word_of-clause-nothing c =
    let ws = texts c.args.words.now in
    let app = app_of c.in_ok-command.command in
    let found : subcommand_of program ws ≡ Some (c.in-Some.name.now, rows_of (found_of c.in-Some.given.now)) =
    found_is app ws c.in_ok-matches.matches c.in-Some.name.now (rows_of (found_of c.in-Some.given.now)) c.in_ok-command.ensures
    c.in_ok-matches.ensures.matches c.in-Some.ensures.name c.in-Some.ensures.rows in
    record {
      accepted = no_fault app ws c.in_ok-command.ensures c.in_ok-matches.ensures.kinds;
      nothing = inl (refl, λ word rows i. c.in_default-word_of.ensures.none word (one_name (subcommand_of program ws) _ _ _ rows found i));
    }

pub returns-in-Err-clause-nothing : goal.returns-in-Err-clause-nothing
returns-in-Err-clause-nothing c =
    let ws = texts c.args.words.now in
    let app = app_of c.in_ok-command.command in
    let found : subcommand_of program ws ≡ Some (c.in-Some.name.now, rows_of (found_of c.in-Some.given.now)) =
    found_is app ws c.in_ok-matches.matches c.in-Some.name.now (rows_of (found_of c.in-Some.given.now)) c.in_ok-command.ensures
    c.in_ok-matches.ensures.matches c.in-Some.ensures.name c.in-Some.ensures.rows in
    record {
      accepted = no_fault app ws c.in_ok-command.ensures c.in_ok-matches.ensures.kinds;
      nothing = inr (c.in-Some.name.now, rows_of (found_of c.in-Some.given.now), found, inl c.in-Err.ensures.unknown);
    }

pub returns-in-Err-texts_for-clause-nothing : goal.returns-in-Err-texts_for-clause-nothing
returns-in-Err-texts_for-clause-nothing c =
    let ws = texts c.args.words.now in
    let app = app_of c.in_ok-command.command in
    let found : subcommand_of program ws ≡ Some (c.in-Some.name.now, rows_of (found_of c.in-Some.given.now)) =
    found_is app ws c.in_ok-matches.matches c.in-Some.name.now (rows_of (found_of c.in-Some.given.now)) c.in_ok-command.ensures
    c.in_ok-matches.ensures.matches c.in-Some.ensures.name c.in-Some.ensures.rows in
    record {
      accepted = no_fault app ws c.in_ok-command.ensures c.in_ok-matches.ensures.kinds;
      nothing = inr (c.in-Some.name.now, rows_of (found_of c.in-Some.given.now), found, inr (inl c.in-Err-texts_for.ensures.wrong));
    }

pub returns-in-Err-manner_of-clause-nothing : goal.returns-in-Err-manner_of-clause-nothing
returns-in-Err-manner_of-clause-nothing c =
    let ws = texts c.args.words.now in
    let app = app_of c.in_ok-command.command in
    let found : subcommand_of program ws ≡ Some (c.in-Some.name.now, rows_of (found_of c.in-Some.given.now)) =
    found_is app ws c.in_ok-matches.matches c.in-Some.name.now (rows_of (found_of c.in-Some.given.now)) c.in_ok-command.ensures
    c.in_ok-matches.ensures.matches c.in-Some.ensures.name c.in-Some.ensures.rows in
    record {
      accepted = no_fault app ws c.in_ok-command.ensures c.in_ok-matches.ensures.kinds;
      nothing = inr (c.in-Some.name.now, rows_of (found_of c.in-Some.given.now), found, inr (inr (inl c.in-Err-manner_of.ensures.wrong)));
    }

pub returns-in-Err-dump_for-clause-nothing : goal.returns-in-Err-dump_for-clause-nothing
returns-in-Err-dump_for-clause-nothing c =
    let ws = texts c.args.words.now in
    let app = app_of c.in_ok-command.command in
    let found : subcommand_of program ws ≡ Some (c.in-Some.name.now, rows_of (found_of c.in-Some.given.now)) =
    found_is app ws c.in_ok-matches.matches c.in-Some.name.now (rows_of (found_of c.in-Some.given.now)) c.in_ok-command.ensures
    c.in_ok-matches.ensures.matches c.in-Some.ensures.name c.in-Some.ensures.rows in
    record {
      accepted = no_fault app ws c.in_ok-command.ensures c.in_ok-matches.ensures.kinds;
      nothing = inr (c.in-Some.name.now, rows_of (found_of c.in-Some.given.now), found, inr (inr (inr c.in-Err-dump_for.ensures.excluded)));
    }

pub returns-clause-asked : goal.returns-clause-asked
returns-clause-asked c =
    let ws = texts c.args.words.now in
    let app = app_of c.in_ok-command.command in
    let rows = rows_of (found_of c.in-Some.given.now) in
    let found : subcommand_of program ws ≡ Some (c.in-Some.name.now, rows) =
    found_is app ws c.in_ok-matches.matches c.in-Some.name.now rows c.in_ok-command.ensures c.in_ok-matches.ensures.matches
    c.in-Some.ensures.name c.in-Some.ensures.rows in
    record {
      accepted = no_fault app ws c.in_ok-command.ensures c.in_ok-matches.ensures.kinds;
      rows = rows;
      word = found ∙ ap (λ name. Some (name, rows)) c.in-Some-word_of.ensures.word;
      options = c.in-Ok.options;
      given = c.in-Ok.ensures.given;
      printout = c.in-Some-word_of.ensures.printout;
      fate = c.in-Ok-manner_of.manner.fate;
      its_fate = c.in-Ok-manner_of.ensures.fate;
      manner =
          subst (λ reading. HasManner reading c.in-Ok-manner_of.manner.fate c.in-Some-word_of.word) c.in-Ok-manner_of.ensures.reading
          c.in-Some-word_of.ensures.manner;
      stream = subst (λ flags. HasStream flags.streams c.in-Some-word_of.word) c.flags_in.ensures c.in-Some-word_of.ensures.stream;
      flags = subst (λ flags. HasFlags flags c.in-Some-word_of.word) c.flags_in.ensures c.in-Some-word_of.ensures.flags;
      read_as = has_texts rows c.in-Some.name.now c.in-Some-word_of.word c.in-Ok-texts_for.read_as c.in-Some-word_of.ensures.word
          c.in-Some-word_of.ensures.texts c.in-Ok-texts_for.ensures.texts;
      dump = has_dump rows c.in-Some.name.now c.in-Some-word_of.word c.in-Ok-dump_for.dumps c.in-Some-word_of.ensures.word c.in-Some-word_of.ensures.dump
          c.in-Ok-dump_for.ensures.dumps;
      names = c.in_ok-names.ensures;
      target = c.get_str.ensures ∙ first_value-rows (found_of c.in-Some.given.now) (codes "output");
    }

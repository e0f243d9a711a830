-- The number at the front of a path.
use Rattle.std.proofs.Common.{◌≡◌, ◌∙◌, [], Option, Some, List, ℕ, ap, arith, length, subst, sym, take}
use Rattle.std.proofs.lemmas.List.{take_all}
use Rattle.std.specs.List.{before_first, position_or_len}
use Rattle.std.specs.Prelude.{◌==◌, unwrap_or}
use Rattle.clap.specs.Walk.{Text}
use Rattle.pod_commands.specs.Requests.{HasNoNumber, IsNoNumber}
use Rattle.pod_commands.specs.declared.misuse.Misuse.{Misuse}
use Rattle.pod_commands.specs.declared.misuse.Misuse.TheVariants.{NoWord, Nth, Path, Color, Name, TooFew, TooMany, ToTerminal, WithStream, WithPart, WithResync, WithDump, Read}

-- all stands before what isn't there
pub none_before : (c : ℕ) (bs : List ℕ) → position_or_len (λ b. b == c) bs ≡ length bs → bs ≡ before_first (λ b. b == c) bs
none_before c bs e = sym (ap (λ n. take n bs) e ∙ take_all (length bs) bs (omega arith))

abbrev given_text : Option Text → Text
given_text given = unwrap_or given []

pub no_number : (given : Text) (why : Misuse) → HasNoNumber (Some given) why → IsNoNumber given
no_number given (Nth text) h = subst IsNoNumber (sym (ap given_text h.0)) h.1
no_number given NoWord h = absurd h
no_number given (Path text) h = absurd h
no_number given (Color when) h = absurd h
no_number given (Name named names similar) h = absurd h
no_number given TooFew h = absurd h
no_number given (TooMany name) h = absurd h
no_number given ToTerminal h = absurd h
no_number given (WithStream other) h = absurd h
no_number given (WithPart refused) h = absurd h
no_number given (WithResync refused) h = absurd h
no_number given WithDump h = absurd h
no_number given (Read why) h = absurd h

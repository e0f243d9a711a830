-- What a parse found, as a request.
use Rattle.std.proofs.Common.{false, ◌≡◌, ◌∙◌, ◌∷◌, ◌++◌, [], inl, inr, ap, ap₂, refl, sym, subst, arith, length, Bool, codes, List, Option, Some, None, true}
use Rattle.std.proofs.lemmas.Option.{none-some, same_Some}
use Rattle.std.specs.Prelude.{Box, is_some, map, option_map, unwrap_or}
use Rattle.std.specs.Borrow.{Bor}
use Rattle.std.specs.Prelude.{Result, Ok, Err, IfErr, IfOk}
use Rattle.std.specs.Box.{box_value}
use Rattle.clap.specs.Faults.{fault_of, is_simple_and_free}
use Rattle.clap.specs.Kinds.{HasKind, IsAmong, Kinds}
use Rattle.clap.specs.Values.{kind_of}
use Rattle.clap.specs.declared.error.kind.ErrorKind.TheVariants.{OutOfMemory}
use Rattle.clap.specs.Matches.{subcommand_name_of}
use Rattle.clap.specs.Simple.{App, HasMatchesOf, is_simple, subcommand_of, subcommand_rows}
use Rattle.clap.specs.Walk.{Row, Text}
use Rattle.clap.specs.Words.{first_of}
use Rattle.clap.specs.declared.error.Error.{Error}
use Rattle.clap.specs.declared.parser.matches.ArgMatches.{ArgMatches}
use Rattle.clap.specs.declared.parser.matches.ArgMatches.TheViews.{out-ArgMatches, out-SubCommand}
use Rattle.clap.specs.declared.parser.matches.SubCommand.{SubCommand}
use Rattle.pod_commands.specs.Program.{program}
use Rattle.pod_commands.specs.Requests.{AreRead, AreTextsIn, AreUnread, HasNoFate, HasNoTexts, HasTexts, IsFate, IsFateIn, IsNoFate, ReadsAs, is_given, name_of, or_input, AsksForDump, DumpsAs, HasDump, IsOfJson, word_of_form}
use Rattle.pod_commands.specs.declared.misuse.Misuse.{Misuse}
use Rattle.pod_commands.specs.declared.request.Fate.{Fate}
use Rattle.pod_commands.specs.declared.request.Making.TheVariants.{Json, Read, Rewrite, Fixate, Check}
use Rattle.pod_commands.specs.declared.request.Making.TheVariants as Making
use Rattle.pod_commands.specs.declared.request.Streaming.TheVariants as Streaming
use Rattle.spa_text_commands.specs.declared.selection.Form.{Form}
use Rattle.spa_text_commands.specs.declared.selection.Form.TheVariants.{Lines, LinesAndBytes, Bytes, Pods}
use Rattle.spa_text_commands.specs.declared.selection.Form.TheVariants as form
use Rattle.pod_commands.specs.declared.request.Texts.{Texts}
use Rattle.pod_commands.specs.declared.request.Word.{Word}
use Rattle.pod_commands.specs.declared.request.Word.TheVariants.{Print, Make, Stream, Diff, Agree}

-- the name and the rows of a subcommand that was found
module _ {Z : Type 0} where
  sub_some : (x : Option (Box SubCommand Z)) (name : Text) (rows : List Row) →
      Some name ≡ option_map (λ b. (out-SubCommand (box_value b)).name.now) x →
      Some rows ≡ option_map (λ p. p.1) (subcommand_rows x) → subcommand_rows x ≡ Some (name, rows)
  unfolding out-SubCommand out-ArgMatches
  sub_some None name rows n r = absurd (none-some name (sym n))
  sub_some (Some b) name rows n r = ap₂ (λ s t. Some (s, t)) (sym (same_Some name _ n)) (sym (same_Some rows _ r))

-- the program's command is one of which clap says all
program_is_simple : is_simple program ≡ true
program_is_simple = refl

program_is_free : is_simple_and_free program ≡ true
program_is_free = refl

pub found_is : (app : App) (words : List Text) (m : ArgMatches) (name : Text) (rows : List Row) → app ≡ program → HasMatchesOf app words m →
    Some name ≡ subcommand_name_of m → Some rows ≡ option_map (λ p. p.1) (subcommand_rows (out-ArgMatches m).subcommand) →
    subcommand_of program words ≡ Some (name, rows)
found_is app words m name rows e h n r =
    let its = subst (λ a. HasMatchesOf a words m) e h program_is_simple in
    sym its.1 ∙ sub_some (out-ArgMatches m).subcommand name rows n r

pub no_fault : (app : App) (words : List Text) → app ≡ program → (is_simple_and_free app ≡ true → fault_of app words ≡ []) → fault_of program words ≡ []
no_fault app words e h = subst (λ a. is_simple_and_free a ≡ true → fault_of a words ≡ []) e h program_is_free

pub fault_is : (app : App) (words : List Text) (error : Error) → app ≡ program → (is_simple_and_free app ≡ true → HasKind (fault_of app words) error) →
    HasKind (fault_of program words) error
fault_is app words error e h = subst (λ a. is_simple_and_free a ≡ true → HasKind (fault_of a words) error) e h program_is_free

-- two names of one subcommand are the same
name_in : Option (Text × List Row) → Text
name_in None = []
name_in (Some p) = p.0

pub one_name : (x : Option (Text × List Row)) (n m : Text) (rs ss : List Row) → x ≡ Some (n, rs) → x ≡ Some (m, ss) → n ≡ m
unfolding name_in
one_name x n m rs ss e f = sym (ap name_in e) ∙ ap name_in f

-- names that are given, or the standard input's
pub all_names : (r : Option (Bor (List (Bor Text)))) (empty : Bor (List (Bor Text))) → empty.now ≡ [] →
    map (λ v. v.now) (unwrap_or r empty).now ≡ unwrap_or (option_map (λ s. map (λ v. v.now) s.now) r) []
all_names None empty e = ap (map (λ v. v.now)) e
all_names (Some s) empty e = refl

pub some_names : (xs : List (Bor Text)) → ¬ (length xs ≡ 0) → or_input (map (λ v. v.now) xs) ≡ map (λ v. v.now) xs
some_names [] h = absurd (h refl)
some_names (x ∷ xs) h = refl

pub no_names : (xs : List (Bor Text)) → length xs ≡ 0 → or_input (map (λ v. v.now) xs) ≡ or_input []
no_names [] h = refl
no_names (x ∷ xs) h = absurd (omega (arith, h))

-- one name is pushed
pub pushed : (old new : List (Bor Text)) (x : Bor Text) → old ≡ [] → new ≡ old ++ (x ∷ []) → map (λ v. v.now) new ≡ x.now ∷ []
pushed old new x none e = ap (map (λ v. v.now)) (e ∙ ap (λ l. l ++ (x ∷ [])) none)

-- clap's refusal is one of those that stand, where memory didn't run out
pub among : (kinds : Kinds) (error : Error) → HasKind kinds error → ¬ (kind_of error ≡ OutOfMemory) → IsAmong (kind_of error) kinds
among kinds error (inl e) some = absurd (some e)
among kinds error (inr a) some = a

-- the word reads texts so
pub has_texts : (rows : List Row) (name : Text) (word : Word) (texts : Texts) → name ≡ name_of word → ReadsAs texts word →
    (name ≡ codes "read" → AreTextsIn rows texts) → HasTexts rows word
has_texts rows name (Make (Read its) manner) texts e r h = subst (AreTextsIn rows) (sym r) (h e)
has_texts rows name (Make (Json style) manner) texts e r h = tt
has_texts rows name (Make (Making.Dump colours) manner) texts e r h = tt
has_texts rows name (Make Rewrite manner) texts e r h = tt
has_texts rows name (Make Fixate manner) texts e r h = tt
has_texts rows name (Make Making.Settle manner) texts e r h = tt
has_texts rows name (Make (Making.Print printing) manner) texts e r h = tt
has_texts rows name (Make Check manner) texts e r h = tt
has_texts rows name (Print printing manner) texts e r h = tt
has_texts rows name (Stream streaming manner) texts e r h = tt
has_texts rows name (Diff comparison reading) texts e r h = tt
has_texts rows name (Agree work reading) texts e r h = tt

-- what becomes of an input is what the rows say
module _ (rows : List Row) (resyncs keeps goes_on : Bool) (r : resyncs ≡ is_given (codes "resync") rows)
    (k : keeps ≡ is_given (codes "keep-refused") rows) (g : goes_on ≡ is_given (codes "keep-going") rows) where
  pub fate_given : (fate : Fate) → IsFate resyncs keeps goes_on fate → IsFateIn rows fate
  fate_given fate h =
      subst (λ b. IsFate b (is_given (codes "keep-refused") rows) (is_given (codes "keep-going") rows) fate) r
      (subst (λ b. IsFate resyncs b (is_given (codes "keep-going") rows) fate) k (subst (λ b. IsFate resyncs keeps b fate) g h))

  pub no_fate_given : (why : Misuse) → IsNoFate resyncs keeps goes_on why → HasNoFate rows why
  no_fate_given why h =
      subst (λ b. IsNoFate b (is_given (codes "keep-refused") rows) (is_given (codes "keep-going") rows) why) r
      (subst (λ b. IsNoFate resyncs b (is_given (codes "keep-going") rows) why) k (subst (λ b. IsNoFate resyncs keeps b why) g h))

-- a value is there where what it says is
pub same_some : {A B : Type 0} (f : A → B) (o : Option A) → is_some o ≡ is_some (option_map f o)
same_some f None = refl
same_some f (Some x) = refl

-- the word prints as pw-dump does, or doesn't, as it is asked to
is_json : (rows : List Row) (name : Text) (form : Form) (dumps : Bool) → name ≡ word_of_form form → (name ≡ codes "json" → AsksForDump rows dumps) →
    (IsOfJson form → dumps ≡ false) → IsOfJson form → AsksForDump rows false
is_json rows name Lines dumps e h d j = absurd j
is_json rows name LinesAndBytes dumps e h d j = absurd j
is_json rows name (form.Text layout) dumps e h d j = subst (AsksForDump rows) (d j) (h e)
is_json rows name Bytes dumps e h d j = subst (AsksForDump rows) (d j) (h e)
is_json rows name Pods dumps e h d j = absurd j

pub has_dump : (rows : List Row) (name : Text) (word : Word) (dumps : Bool) → name ≡ name_of word → DumpsAs dumps word →
    (name ≡ codes "json" → AsksForDump rows dumps) → HasDump rows word
has_dump rows name (Make (Making.Dump colours) manner) dumps e d h = subst (AsksForDump rows) d (h e)
has_dump rows name (Make (Json style) manner) dumps e d h = subst (AsksForDump rows) d (h e)
has_dump rows name (Make (Read its) manner) dumps e d h = tt
has_dump rows name (Make Rewrite manner) dumps e d h = tt
has_dump rows name (Make Fixate manner) dumps e d h = tt
has_dump rows name (Make Making.Settle manner) dumps e d h = tt
has_dump rows name (Make (Making.Print printing) manner) dumps e d h = tt
has_dump rows name (Make Check manner) dumps e d h = tt
has_dump rows name (Print printing manner) dumps e d h = is_json rows name printing.printout.form dumps e h d
has_dump rows name (Stream (Streaming.Json style) manner) dumps e d h = subst (AsksForDump rows) d (h e)
has_dump rows name (Stream Streaming.Rewrite manner) dumps e d h = tt
has_dump rows name (Stream (Streaming.Print printing) manner) dumps e d h = is_json rows name printing.printout.form dumps e h d
has_dump rows name (Stream Streaming.Check manner) dumps e d h = tt
has_dump rows name (Diff comparison reading) dumps e d h = tt
has_dump rows name (Agree work reading) dumps e d h = tt

-- options are those that the rows have
module _ (rows : List Row) (hex loose dump : Bool) (type id : Option Text) (x : hex ≡ is_given (codes "from-hex") rows)
    (l : loose ≡ is_given (codes "loose") rows) (d : dump ≡ is_given (codes "pw-dump") rows)
    (t : type ≡ first_of (codes "type") rows) (i : id ≡ first_of (codes "id") rows) where
  pub texts_given : (name : Text) (r : Result Texts Misuse) → IfOk r (AreRead hex loose dump type id) → IfOk r (λ texts. name ≡ codes "read" → AreTextsIn rows texts)
  texts_given name (Ok texts) h =
      λ e. subst (λ b. AreRead b (is_given (codes "loose") rows) (is_given (codes "pw-dump") rows) (first_of (codes "type") rows) (first_of (codes "id") rows) texts) x
      (subst (λ b. AreRead hex b (is_given (codes "pw-dump") rows) (first_of (codes "type") rows) (first_of (codes "id") rows) texts) l
      (subst (λ b. AreRead hex loose b (first_of (codes "type") rows) (first_of (codes "id") rows) texts) d
      (subst (λ o. AreRead hex loose dump o (first_of (codes "id") rows) texts) t (subst (λ o. AreRead hex loose dump type o texts) i h))))
  texts_given name (Err why) h = tt

  pub texts_wrong : (r : Result Texts Misuse) → IfErr r (AreUnread hex loose dump type id) → IfErr r (HasNoTexts rows)
  texts_wrong (Ok texts) h = tt
  texts_wrong (Err why) h =
      subst (λ b. AreUnread b (is_given (codes "loose") rows) (is_given (codes "pw-dump") rows) (first_of (codes "type") rows) (first_of (codes "id") rows) why) x
      (subst (λ b. AreUnread hex b (is_given (codes "pw-dump") rows) (first_of (codes "type") rows) (first_of (codes "id") rows) why) l
      (subst (λ b. AreUnread hex loose b (first_of (codes "type") rows) (first_of (codes "id") rows) why) d
      (subst (λ o. AreUnread hex loose dump o (first_of (codes "id") rows) why) t (subst (λ o. AreUnread hex loose dump type o why) i h))))

pub use Rattle.spa_format.specs.Words
pub use Rattle.spa_format.specs.Kind
pub use Rattle.spa_format.specs.Tree
pub use Rattle.spa_format.specs.Normal
pub use Rattle.spa_format.specs.Pod
pub use Rattle.spa_format.specs.Encoding
pub use Rattle.spa_format.specs.Writable
pub use Rattle.spa_format.specs.Front
pub use Rattle.spa_format.specs.Typed
pub use Rattle.spa_format.specs.Faults
pub use Rattle.spa_format.specs.Opened
pub use Rattle.spa_format.specs.Lenient
pub use Rattle.spa_format.specs.Before
pub use Rattle.spa_format.specs.Walk
pub use Rattle.spa_format.specs.Fixation
pub use Rattle.spa_fixed_sized.specs.Choices
pub use Rattle.spa_fixed_sized.specs.Faults as FaultTexts
pub use Rattle.spa_fixed_sized.specs.Reading as ArrayReading
pub use Rattle.spa_utils.specs.Copies
pub use Rattle.spa_utils.specs.Equality as ChoiceEquality
pub use Rattle.spa_utils.specs.Reversal
pub use Rattle.spa_dict.specs.Pairs as DictPairs
pub use Rattle.spa_dict.specs.Left as DictLeft
pub use Rattle.spa_dict.specs.Reading as DictReading
pub use Rattle.spa_dict.specs.Parsing as DictParsing
pub use Rattle.spa_result.specs.ResultCode
pub use Rattle.spa_result.specs.Answers as ResultAnswers
pub use Rattle.spa_sink.specs.Writing
pub use Rattle.spa_device.specs.Counting
pub use Rattle.spa_value.specs.View
pub use Rattle.spa_value.specs.Views
pub use Rattle.spa_value.specs.Equality
pub use Rattle.spa_value.specs.ObjectLaws
pub use Rattle.spa_bodies.specs.Reading
pub use Rattle.spa_read.specs.Reading as LenientReading
pub use Rattle.spa_typed_read.specs.Asking
pub use Rattle.spa_typed_read.specs.Visiting
pub use Rattle.spa_typed_read.specs.Members
pub use Rattle.spa_typed_read.specs.Exactly
pub use Rattle.spa_typed_read.specs.ExactlyLaws
pub use Rattle.spa_typed_read.specs.Lookup
pub use Rattle.spa_visitors.specs.Declining
pub use Rattle.spa_bodies.specs.Written
pub use Rattle.spa_typed_write.specs.Success
pub use Rattle.spa_typed_write.specs.Unfinished
pub use Rattle.spa_typed_write.specs.Listed
pub use Rattle.spa_typed_write.specs.Complete
pub use Rattle.spa_typed_write.specs.Parts as WrittenParts
pub use Rattle.spa_write.specs.DeepValues
pub use Rattle.spa_canonical.specs.Canonical
pub use Rattle.spa_canonical.specs.Depth
pub use Rattle.spa_canonical.specs.Rewriting
pub use Rattle.spa_canonical.specs.Look
pub use Rattle.spa_rewrite.specs.Refusals as RewritingRefusals
pub use Rattle.spa_lenient.specs.Rewriting as LenientRewriting
pub use Rattle.spa_view.specs.View as Seen
pub use Rattle.spa_view.specs.Tests
pub use Rattle.spa_view.specs.Found
pub use Rattle.spa_view.specs.Settled
pub use Rattle.spa_view.specs.Elements
pub use Rattle.spa_builder.specs.State as BuilderState
pub use Rattle.spa_builder.specs.Step as BuilderSteps
pub use Rattle.spa_builder.specs.Fields as BuilderFields
pub use Rattle.spa_builder.specs.Answers as BuilderAnswers
pub use Rattle.spa_builder.specs.Replay as BuilderRuns
pub use Rattle.spa_builder.specs.Making as BuilderMaking
pub use Rattle.spa_parser.specs.State as ParserState
pub use Rattle.spa_parser.specs.Steps as ParserSteps
-- The types that clauses name, and what is named of each: its constants, or its cases.
pub use Rattle.spa_utils.specs.declared.errno.Errno
pub use Rattle.spa_utils.specs.declared.errno.TheConstants.Errno as Errnos
pub use Rattle.spa_utils.specs.declared.id.Id
pub use Rattle.spa_utils.specs.declared.rectangle.Rectangle
pub use Rattle.spa_utils.specs.declared.fraction.Fraction
pub use Rattle.spa_utils.specs.declared.frame.Frame
pub use Rattle.spa_sink.specs.declared.gen_error.GenError
pub use Rattle.spa_sink.specs.declared.gen_error.GenError.TheVariants as GenErrors
pub use Rattle.spa_fixed_sized.specs.declared.fault.DeserializeError
pub use Rattle.spa_fixed_sized.specs.declared.fault.DeserializeError.TheVariants as DeserializeErrors
pub use Rattle.spa_fixed_sized.specs.declared.fault.FaultKind
pub use Rattle.spa_fixed_sized.specs.declared.fault.FaultKind.TheVariants as FaultKinds
pub use Rattle.spa_fixed_sized.specs.declared.fault.Refusal
pub use Rattle.spa_fixed_sized.specs.declared.fault.Refusal.TheVariants as Refusals
pub use Rattle.spa_typed_read.specs.declared.visitor.Never
pub use Rattle.spa_typed_read.specs.declared.visitor.Visit
pub use Rattle.spa_typed_read.specs.declared.visitor.Visit.TheVariants as VisitCases
pub use Rattle.spa_value.specs.declared.object.Object
pub use Rattle.spa_value.specs.declared.object.Property
pub use Rattle.spa_value.specs.declared.value.Value
pub use Rattle.spa_value.specs.declared.value.Value.TheVariants as Values
pub use Rattle.spa_value.specs.declared.array.ValueArray
pub use Rattle.spa_value.specs.declared.choice_value.ChoiceValue
pub use Rattle.spa_value.specs.declared.choice_value.ChoiceValue.TheVariants as ChoiceValues

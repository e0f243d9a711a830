use Rattle.spa_format.proofs.WalkedMembers as lemmas
use Rattle.spa_format.proofs.view_laws.walks_find_members.Goals as goal

pub returns-clause-members : goal.returns-clause-members
returns-clause-members c = lemmas.members_walked

pub returns-clause-properties : goal.returns-clause-properties
returns-clause-properties c = lemmas.properties_walked

pub returns-clause-of_struct : goal.returns-clause-of_struct
returns-clause-of_struct c = lemmas.struct_walked

pub returns-clause-of_object : goal.returns-clause-of_object
returns-clause-of_object c = lemmas.object_walked

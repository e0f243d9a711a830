use Rattle.spa_format.proofs.FixatedObjects as lemmas
use Rattle.spa_format.proofs.FixatedPlaces as places
use Rattle.spa_format.proofs.view_laws.fixation_changes_shape_words.Goals as goal

pub returns-clause-length : goal.returns-clause-length
returns-clause-length c = lemmas.length-fixated_bytes

pub returns-clause-rest : goal.returns-clause-rest
returns-clause-rest c = lemmas.rest_of-fixated_bytes

pub returns-clause-shape_words : goal.returns-clause-shape_words
returns-clause-shape_words c = places.shape_words_set

pub returns-clause-others : goal.returns-clause-others
returns-clause-others c = places.others_stay

mod NotesInOrder
mod EntriesTold
mod LeaseCounts

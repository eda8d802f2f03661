mod KeyData
mod LearnedTables

pub mod ShardParts

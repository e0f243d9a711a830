mod Filtering
